use Rattle.std.specs.Prelude.{None}
use Prim.Native.Nat.{ℕ}
use mathlib.Core.Path.{ap}
use lib.ListN.{get_or}
use Rattle.device.specs.Meaning.{chosen}
use Rattle.device.proofs.lane_of.Goals as goal

pub returns : goal.returns
unfolding chosen
returns c = ap (λ (k : ℕ). get_or c.args.p.lanes k None) c.lane_number.ensures.0

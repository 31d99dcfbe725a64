use Prim.Native.Nat.{ℕ}
use mathlib.Core.Path.{ap}
use mathlib.Core.Bool.{not}
use lib.Dec.{eqb}
use Rattle.device.specs.Decode.{is_set}
use Rattle.device.proofs.is_set.Goals as goal

pub returns : goal.returns
unfolding is_set
returns c = ap (λ (b : ℕ). not (eqb b 0)) c.byte.ensures

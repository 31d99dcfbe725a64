use native.Mathlib.Omega.{arith}
use Rattle.lookup.proofs.Ranks.{slots_are, slots-few}
use Rattle.lookup.proofs.slots.Goals as goal

pub returns : goal.returns
returns c = let m = c.args.mem.now in let e = slots_are m _ _ c.byte-d.ensures c.cut.ensures in (e, omega (arith, slots-few m, c.byte-d.ensures))

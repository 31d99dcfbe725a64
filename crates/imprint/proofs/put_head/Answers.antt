use native.Mathlib.Omega.{arith}
use Rattle.imprint.proofs.Head.{headed}
use Rattle.imprint.proofs.put_head.Goals as goal

pub returns : goal.returns
returns c = headed _ _ _ _ _ _ _ _ _ c.requires c.put_family.ensures (omega arith) c.set.ensures (omega (arith, c.min.ensures, c.from.ensures))

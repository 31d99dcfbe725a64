use native.Mathlib.Omega.{arith}
use mathlib.Core.Path.{refl}
use Rattle.escapes.proofs.Buffers.{copied_none, copied_some}
use Rattle.escapes.proofs.copy.Goals as goal

pub returns-then-t-out : goal.returns-then-t-out
returns-then-t-out c = copied_some _ _ refl (omega arith) c.put.ensures

pub returns-else-t-out : goal.returns-else-t-out
returns-else-t-out c = copied_none _ _ refl (omega arith)

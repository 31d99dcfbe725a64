use native.Mathlib.Omega.{arith}
use Rattle.escapes.proofs.Buffers.{copied_none, copied_some}
use Rattle.escapes.proofs.copy_written.Goals as goal

pub returns-then-n-out : goal.returns-then-n-out
returns-then-n-out c = copied_some _ _ c.count-n.ensures (omega arith) c.put_written.ensures

pub returns-else-n-out : goal.returns-else-n-out
returns-else-n-out c = copied_none _ _ c.count-n.ensures (omega arith)

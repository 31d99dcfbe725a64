use native.Mathlib.Omega.{arith}
use Rattle.memory.proofs.Seen.{no-mark, one-mark}
use Rattle.memory.proofs.marks.Goals as goal

pub loop-t-init : goal.loop-t-init
loop-t-init c = no-mark _

pub loop-t-preserved : goal.loop-t-preserved
loop-t-preserved c = one-mark _ _ _ _ c.from.ensures (omega arith) c.loop-t.invariant

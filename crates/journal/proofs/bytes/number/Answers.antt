use native.Mathlib.Omega.{arith}
use mathlib.Core.Path.{refl}
use Rattle.journal.proofs.Loops.{over_none, over-more}
use Rattle.journal.proofs.bytes.number.Goals as goal

pub loop-i-init : goal.loop-i-init
loop-i-init c = over_none _ _ _

pub loop-i-preserved : goal.loop-i-preserved
loop-i-preserved c = over-more _ _ _ _ _ c.loop-i.i _ (omega arith) (omega arith) refl c.loop-i.invariant

pub shape_of-order : goal.shape_of-order
shape_of-order c = c.loop-i.invariant.kept

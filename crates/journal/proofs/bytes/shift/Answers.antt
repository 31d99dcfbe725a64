use native.Mathlib.Omega.{arith}
use Rattle.journal.proofs.Shift.{rotated-left, rotated-right}
use Rattle.journal.proofs.bytes.shift.Goals as goal

pub returns-then-from-to : goal.returns-then-from-to
returns-then-from-to c = rotated-left _ _ _ _ _ c.if-from-to.true (omega arith) (omega arith) c.rotate_left.ensures.after

pub returns-else-from-to : goal.returns-else-from-to
returns-else-from-to c = rotated-right _ _ _ _ _ (omega arith) (omega arith) (omega arith) c.rotate_right.ensures.after

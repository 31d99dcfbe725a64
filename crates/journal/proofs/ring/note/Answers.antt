use native.Mathlib.Omega.{arith}
use Rattle.journal.proofs.Steps.{noted}
use Rattle.journal.proofs.ring.note.Goals as goal

pub returns : goal.returns
returns c =
    noted _ _ _ _ _ _ _ _ _ _ (omega arith) (omega arith) (omega arith) (omega arith) c.set.ensures c.set-2.ensures c.write.ensures c.copy.ensures

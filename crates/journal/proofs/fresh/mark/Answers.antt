use native.Mathlib.Omega.{arith}
use Rattle.journal.proofs.Empty.{marked}
use Rattle.journal.proofs.Steps.{over-whole}
use Rattle.journal.proofs.fresh.mark.Goals as goal

pub returns : goal.returns
returns c =
    marked c.args.mem.now _ _ _ _ _ _ _ c.requires (omega arith) (omega arith) (omega arith) (over-whole c.args.mem.now c.clear.new.room _ 0 8192 (omega arith) c.clear.ensures)

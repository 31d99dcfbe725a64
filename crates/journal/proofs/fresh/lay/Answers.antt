use native.Mathlib.Omega.{arith}
use Rattle.journal.proofs.Empty.{laid}
use Rattle.journal.proofs.Steps.{over-whole}
use Rattle.journal.proofs.fresh.lay.Goals as goal

pub returns : goal.returns
returns c =
    laid c.args.mem.now c.mark.new.mem c.write.new.mem _ c.args.domain.now _ _ c.requires c.mark.ensures c.write.ensures (over-whole c.write.new.mem c.number.new.order _ 64 64 (omega (arith, c.write.ensures.kept, c.mark.ensures.kept)) c.number.ensures)

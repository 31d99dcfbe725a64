use Rattle.table.proofs.Obeying.{kept}
use Rattle.table.proofs.writing.keep.Goals as goal

pub returns : goal.returns
returns c = kept _ _ c.count-n.ensures _ _ _ c.write.ensures

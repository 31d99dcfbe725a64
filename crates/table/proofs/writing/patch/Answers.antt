use Rattle.table.proofs.Obeying.{patched}
use Rattle.table.proofs.writing.patch.Goals as goal

pub returns : goal.returns
returns c = patched _ _ c.count-n.ensures _ _ _ _ _ _ c.write.ensures

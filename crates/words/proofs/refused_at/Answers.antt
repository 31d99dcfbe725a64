use Rattle.words.proofs.Wording.{adds-place}
use Rattle.words.proofs.refused_at.Goals as goal

pub returns : goal.returns
returns c = adds-place _ _ c.refused-at.ensures c.put-next.ensures c.write.ensures

use Rattle.words.proofs.Wording.{adds-refusal}
use Rattle.words.proofs.refused.Goals as goal

pub returns : goal.returns
returns c = adds-refusal _ c.put-at.ensures c.write.ensures

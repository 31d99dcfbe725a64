use Rattle.viewer.proofs.Passing.{reads-reply}
use Rattle.viewer.proofs.judgements.homie5_description_read.Goals as goal

pub returns : goal.returns
returns c = reads-reply _ _ _ _ _ _ _ c.describe-a.ensures c.tell_description.ensures

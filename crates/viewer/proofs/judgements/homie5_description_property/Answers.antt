use Rattle.viewer.proofs.Passing.{reads-reply}
use Rattle.viewer.proofs.judgements.homie5_description_property.Goals as goal

pub returns : goal.returns
returns c = reads-reply _ _ _ _ _ _ _ c.describe-d.ensures c.tell_declared.ensures

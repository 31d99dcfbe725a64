use Rattle.fields.proofs.Values.{text_is}
use Rattle.fields.proofs.is_string.Goals as goal

pub returns : goal.returns
returns c = text_is _ _ c.peek.ensures

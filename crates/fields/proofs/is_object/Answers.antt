use Rattle.fields.proofs.Values.{object_is}
use Rattle.fields.proofs.is_object.Goals as goal

pub returns : goal.returns
returns c = object_is _ _ c.peek.ensures

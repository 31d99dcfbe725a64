use Rattle.fields.proofs.Values.{true_is}
use Rattle.fields.proofs.is_true.Goals as goal

pub returns : goal.returns
returns c = true_is _ _ c.peek.ensures

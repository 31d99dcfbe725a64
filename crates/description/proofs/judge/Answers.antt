use Rattle.description.proofs.Whole.{told_is}
use Rattle.description.proofs.judge.Goals as goal

pub returns : goal.returns
returns c = told_is _ _ _ c.describe.ensures

use Rattle.judge.proofs.Asking.{description-says}
use Rattle.judge.proofs.Saying.{says}
use Rattle.judge.proofs.question.of_description.Goals as goal

pub returns : goal.returns
returns c = says (description-says _ _ _ c.judge-t.ensures) c.taken.ensures

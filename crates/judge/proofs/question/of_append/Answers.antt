use Rattle.judge.proofs.Asking.{append-says}
use Rattle.judge.proofs.Saying.{says}
use Rattle.judge.proofs.question.of_append.Goals as goal

pub returns : goal.returns
returns c = says (append-says _ _ _ _ _ _ c.append-w.ensures) c.used.ensures

use Rattle.judge.proofs.Saying.{says, is-taken, not_taken}
use Rattle.lines.proofs.Adding.{put-adds}
use Rattle.judge.proofs.say.taken.Goals as goal

pub returns-in-None : goal.returns-in-None
returns-in-None c = says (is-taken _ c.in-None.is) (put-adds _ _ _ c.put.ensures)

pub returns-in-Some : goal.returns-in-Some
returns-in-Some c = says (not_taken _ c.in-Some.is c.number.ensures) c.refused_at.ensures

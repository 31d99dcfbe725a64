use Rattle.judge.proofs.Saying.{says, says_yes, says_no}
use Rattle.lines.proofs.Adding.{put-adds}
use Rattle.judge.proofs.say.yes_or_no.Goals as goal

pub returns-then-yes : goal.returns-then-yes
returns-then-yes c = says (says_yes _ c.if-yes.true) (put-adds _ _ _ c.put.ensures)

pub returns : goal.returns
returns c = says (says_no _ c.if-yes.false) (put-adds _ _ _ c.put-2.ensures)

use Rattle.judge.proofs.Saying.{says, says-one, says-zero}
use Rattle.lines.proofs.Adding.{put-adds}
use Rattle.judge.proofs.say.flag.Goals as goal

pub returns-then-retained : goal.returns-then-retained
returns-then-retained c = says (says-one _ c.if-retained.true) (put-adds _ _ _ c.put.ensures)

pub returns : goal.returns
returns c = says (says-zero _ c.if-retained.false) (put-adds _ _ _ c.put-2.ensures)

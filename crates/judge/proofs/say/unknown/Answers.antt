use Rattle.lines.proofs.Adding.{put-adds}
use Rattle.judge.proofs.say.unknown.Goals as goal

pub returns : goal.returns
returns c = put-adds _ _ _ c.put.ensures

use Rattle.lines.proofs.Adding.{put-adds, adds_then}
use Rattle.judge.proofs.say.one.Goals as goal

pub returns : goal.returns
returns c = adds_then (put-adds _ _ _ c.put-at.ensures) c.id.ensures

use Rattle.lines.proofs.Adding.{put-adds, adds_then}
use Rattle.judge.proofs.say.refused_at.Goals as goal

pub returns : goal.returns
returns c =
    adds_then (put-adds _ _ _ c.put-at.ensures) (adds_then (put-adds _ _ _ c.write-next.ensures) (adds_then (put-adds _ _ _ c.put-last.ensures) (put-adds _ _ _ c.write.ensures)))

use Rattle.judge.proofs.Saying.{says, no-events, some-events}
use Rattle.lines.proofs.Adding.{put-adds, adds_then}
use Rattle.judge.proofs.say.events.Goals as goal

pub returns-in-Err : goal.returns-in-Err
returns-in-Err c = says (no-events _ c.in-Err.is) (rw c.number.ensures at c.refused.ensures)

pub returns-in-Ok : goal.returns-in-Ok
returns-in-Ok c = says (some-events _ c.in-Ok.is) (adds_then (put-adds _ _ _ c.put-at.ensures) (put-adds _ _ _ c.write.ensures))

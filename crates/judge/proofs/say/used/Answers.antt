use Rattle.judge.proofs.Saying.{says, not_used, is_used}
use Rattle.lines.proofs.Adding.{put-adds, adds_then}
use Rattle.judge.proofs.say.used.Goals as goal

pub returns-in-Err : goal.returns-in-Err
returns-in-Err c = says (not_used c.args.buffer.now _ c.in-Err.is) (rw c.number.ensures at c.refused.ensures)

pub returns-in-Ok : goal.returns-in-Ok
returns-in-Ok c =
    says (is_used c.args.buffer.now _ c.in-Ok.is) (adds_then (put-adds _ _ _ c.put-at.ensures) (adds_then (put-adds _ _ _ c.write-next.ensures) (adds_then (put-adds _ _ _ c.put-last.ensures) (put-adds _ _ _ c.encode.ensures))))

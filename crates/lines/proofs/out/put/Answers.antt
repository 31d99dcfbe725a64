use native.Mathlib.Omega.{arith}
use Rattle.lines.proofs.Putting.{put_no, put-fits, put_yes, part-put}
use Rattle.lines.proofs.out.put.Goals as goal

pub returns-then-not-has_room : goal.returns-then-not-has_room
returns-then-not-has_room c = put_no _ _ _ c.has_room.ensures c.if-not-has_room.true

pub returns : goal.returns
returns c =
    let a = c.args in
    put_yes _ _ _ (put-fits a.out.now a.at a.s.now c.has_room.ensures c.if-not-has_room.false) (part-put _ _ a.s.now _ _ c.copy_from_slice.ensures.after (omega arith))

use native.Mathlib.Omega.{arith}
use Rattle.patch.proofs.Changes.{lanes-three, lane_outside, lane-inside-set}
use Rattle.patch.proofs.Written.{part-put}
use Rattle.patch.proofs.set_lane.Goals as goal

pub overflow_add-at : goal.overflow_add-at
overflow_add-at c =
    let a = c.args in
    omega (arith, lanes-three a.kind, c.lane_offset-at.ensures)

pub returns-then-at-room : goal.returns-then-at-room
returns-then-at-room c =
    let l = c.lane-bytes in
    lane-inside-set _ _ _ _ _ l.result c.lane_offset-at.ensures (omega (arith, l.type_inv)) l.ensures _ c.if-at-room.true (part-put _ _ l.result _ _ c.copy_from_slice.ensures.after (omega (arith, l.type_inv)))

pub returns-else-at-room : goal.returns-else-at-room
returns-else-at-room c =
    let l = c.lane-bytes in
    lane_outside _ _ _ _ _ l.result c.lane_offset-at.ensures (omega (arith, l.type_inv)) l.ensures (omega arith)

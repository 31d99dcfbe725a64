use Rattle.std.proofs.Common.{arith}
use Rattle.text.proofs.Split.{is_part}
use Rattle.judge.proofs.answer_all.Goals as goal

pub slice_bounds-answer-count : goal.slice_bounds-answer-count
slice_bounds-answer-count g c = let p = is_part _ _ _ _ _ _ c.in-Some.ensures in omega arith

pub slice_bounds-answer-start : goal.slice_bounds-answer-start
slice_bounds-answer-start g c = let p = is_part _ _ _ _ _ _ c.in-Some.ensures in omega arith

pub slice_bounds-answer-end : goal.slice_bounds-answer-end
slice_bounds-answer-end g c = let p = is_part _ _ _ _ _ _ c.in-Some.ensures in omega arith

pub loop-at-smaller : goal.loop-at-smaller
loop-at-smaller g c = let p = is_part _ _ _ _ _ _ c.in-Some.ensures in omega arith

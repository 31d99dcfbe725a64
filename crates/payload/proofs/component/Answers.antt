use native.Mathlib.Omega.{arith}
use Rattle.payload.proofs.Parting.{found, missing, after-past, after_yes, after_no}
use Rattle.payload.proofs.component.Goals as goal

pub returns-in_err-start : goal.returns-in_err-start
returns-in_err-start c = let s = c.args.s.now in rw c.from_residual.ensures (after-past s c.args.at c.args.most (missing s c.args.at c.next_part.ensures c.in_err-start.was))

pub slice_bounds-is_up_to-count : goal.slice_bounds-is_up_to-count
slice_bounds-is_up_to-count c = let p = found c.args.s.now c.args.at c.next_part.ensures c.in_ok-start.was in omega arith

pub slice_bounds-is_up_to-start : goal.slice_bounds-is_up_to-start
slice_bounds-is_up_to-start c = let p = found c.args.s.now c.args.at c.next_part.ensures c.in_ok-start.was in omega arith

pub slice_bounds-is_up_to-end : goal.slice_bounds-is_up_to-end
slice_bounds-is_up_to-end c = let p = found c.args.s.now c.args.at c.next_part.ensures c.in_ok-start.was in omega arith

pub returns-then-is_up_to : goal.returns-then-is_up_to
returns-then-is_up_to c =
    let s = c.args.s.now in after_yes s c.args.at c.args.most (found s c.args.at c.next_part.ensures c.in_ok-start.was) c.is_up_to.ensures c.if-is_up_to.true

pub returns-else-is_up_to : goal.returns-else-is_up_to
returns-else-is_up_to c =
    let s = c.args.s.now in after_no s c.args.at c.args.most (found s c.args.at c.next_part.ensures c.in_ok-start.was) c.is_up_to.ensures c.if-is_up_to.false

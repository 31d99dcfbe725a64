use native.Mathlib.Omega.{arith}
use mathlib.Core.Path.{ap, ◌∙◌}
use Rattle.ranges.specs.Parts.{shown}
use Rattle.std.proofs.lemmas.List.{length-take-le}
use Rattle.ranges.proofs.Cutting.{found, missing, no_part, one_part, two-parts, three-parts, four-parts}
use Rattle.ranges.proofs.cut_fields.Goals as goal

pub returns-in_err-first : goal.returns-in_err-first
returns-in_err-first c = let s = c.args.s.now in ap shown c.from_residual.ensures ∙ no_part s (missing s 0 c.next_part.ensures c.in_err-first.was)

pub returns-in_err-second : goal.returns-in_err-second
returns-in_err-second c =
    let s = c.args.s.now in
    ap shown c.from_residual-in_err-second.ensures
    ∙ one_part s (found s 0 c.next_part.ensures c.in_ok-first.was) (missing s _ c.next_part-2.ensures c.in_err-second.was)

pub slice_bounds-min-end : goal.slice_bounds-min-end
slice_bounds-min-end c =
    let s = c.args.s.now in
    let p = found s 0 c.next_part.ensures c.in_ok-first.was in
    omega (arith, length-take-le c.in_ok-first.first.end s (omega (arith, p.within, p.next)))

pub slice_bounds-max-count : goal.slice_bounds-max-count
slice_bounds-max-count c =
    let s = c.args.s.now in
    let q = found s _ c.next_part-2.ensures c.in_ok-second.was in
    omega (arith, q.ordered)

pub slice_bounds-max-start : goal.slice_bounds-max-start
slice_bounds-max-start c =
    let s = c.args.s.now in
    let q = found s _ c.next_part-2.ensures c.in_ok-second.was in
    omega (arith, q.ordered)

pub slice_bounds-max-end : goal.slice_bounds-max-end
slice_bounds-max-end c =
    let s = c.args.s.now in
    let q = found s _ c.next_part-2.ensures c.in_ok-second.was in
    omega (arith, q.within)

pub returns-in_default : goal.returns-in_default
returns-in_default c =
    let s = c.args.s.now in
    two-parts s (found s 0 c.next_part.ensures c.in_ok-first.was) (found s _ c.next_part-2.ensures c.in_ok-second.was) (missing s _ c.next_part-3.ensures c.in_default.is)

pub returns-then-third-s : goal.returns-then-third-s
returns-then-third-s c =
    let s = c.args.s.now in
    four-parts s (found s 0 c.next_part.ensures c.in_ok-first.was) (found s _ c.next_part-2.ensures c.in_ok-second.was) (found s _ c.next_part-3.ensures c.in-Some.is) c.if-third-s.true

pub slice_bounds-result-count : goal.slice_bounds-result-count
slice_bounds-result-count c =
    let s = c.args.s.now in
    let r = found s _ c.next_part-3.ensures c.in-Some.is in
    omega (arith, r.here)

pub slice_bounds-result-start : goal.slice_bounds-result-start
slice_bounds-result-start c =
    let s = c.args.s.now in
    let r = found s _ c.next_part-3.ensures c.in-Some.is in
    omega (arith, r.here)

pub returns : goal.returns
returns c =
    let s = c.args.s.now in
    three-parts s (found s 0 c.next_part.ensures c.in_ok-first.was) (found s _ c.next_part-2.ensures c.in_ok-second.was) (found s _ c.next_part-3.ensures c.in-Some.is) c.if-third-s.false

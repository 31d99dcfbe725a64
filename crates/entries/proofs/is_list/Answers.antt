use Rattle.std.proofs.Common.{arith, Bool, not, ◌&&◌, refl, sym, ap, ◌∙◌}
use Rattle.text.specs.Bytes.{slice}
use Rattle.text.proofs.Split.{is_part, is_none}
use Rattle.entries.specs.Parts.{from}
use Rattle.entries.proofs.From.{good, list_is, empty-here, step-here, none_left, found_here, other-here, not_found}
use Rattle.entries.proofs.is_list.Goals as goal

pub entries-init : goal.entries-init
entries-init c = (refl, sym (list_is _))

pub loop-other-init : goal.loop-other-init
loop-other-init c = (c.entries.invariant.0, refl)

pub slice_bounds-same-count : goal.slice_bounds-same-count
slice_bounds-same-count c = let p = is_part _ _ _ _ _ _ (sym c.in-Some.is ∙ c.next_part.ensures) in omega arith

pub slice_bounds-same-start : goal.slice_bounds-same-start
slice_bounds-same-start c = let p = is_part _ _ _ _ _ _ (sym c.in-Some.is ∙ c.next_part.ensures) in omega arith

pub slice_bounds-same-end : goal.slice_bounds-same-end
slice_bounds-same-end c = let p = is_part _ _ _ _ _ _ (sym c.in-Some.is ∙ c.next_part.ensures) in omega arith

pub slice_bounds-same-count-in-Some-next_part : goal.slice_bounds-same-count-in-Some-next_part
slice_bounds-same-count-in-Some-next_part c = let p = is_part _ _ _ _ _ _ (sym c.in-Some-next_part.is ∙ c.next_part-in-loop-other.ensures) in omega arith

pub slice_bounds-same-start-in-Some-next_part : goal.slice_bounds-same-start-in-Some-next_part
slice_bounds-same-start-in-Some-next_part c = let p = is_part _ _ _ _ _ _ (sym c.in-Some-next_part.is ∙ c.next_part-in-loop-other.ensures) in omega arith

pub slice_bounds-same-end-in-Some-next_part : goal.slice_bounds-same-end-in-Some-next_part
slice_bounds-same-end-in-Some-next_part c = let p = is_part _ _ _ _ _ _ (sym c.in-Some-next_part.is ∙ c.next_part-in-loop-other.ensures) in omega arith

pub loop-other-smaller : goal.loop-other-smaller
loop-other-smaller c = let p = is_part _ _ _ _ _ _ (sym c.in-Some-next_part.is ∙ c.next_part-in-loop-other.ensures) in omega arith

pub loop-other-preserved : goal.loop-other-preserved
loop-other-preserved c =
    let s = c.args.s.now in
    let e = c.in-Some.entry in
    let o = c.in-Some-next_part.other in
    let p = is_part 44 s c.loop-other.j o.start o.end o.next (sym c.in-Some-next_part.is ∙ c.next_part-in-loop-other.ensures) in
    (c.loop-other.invariant.0, c.loop-other.invariant.1 ∙ other-here s _ _ _ _ p (slice s e.start e.end) c.same.ensures c.if-same.false)

pub entries-smaller : goal.entries-smaller
entries-smaller c = let p = is_part _ _ _ _ _ _ (sym c.in-Some.is ∙ c.next_part.ensures) in omega arith

pub entries-preserved : goal.entries-preserved
entries-preserved c =
    let s = c.args.s.now in
    let e = c.in-Some.entry in
    let p = is_part 44 s c.entries.i e.start e.end e.next (sym c.in-Some.is ∙ c.next_part.ensures) in (
      c.loop-other.invariant.0,
      c.entries.invariant.1 ∙ step-here s _ _ _ _ p c.if-entry.false
          ∙ ap (λ (t : Bool). not t && good (from s e.next)) (c.loop-other.invariant.1 ∙ not_found s c.loop-other.j (is_none _ _ _ (sym c.in_default-next_part.is ∙ c.next_part-in-loop-other.ensures)) (slice s e.start e.end)),
    )

pub returns-then-entry : goal.returns-then-entry
returns-then-entry c =
    let s = c.args.s.now in
    let e = c.in-Some.entry in
    let p = is_part 44 s c.entries.i e.start e.end e.next (sym c.in-Some.is ∙ c.next_part.ensures) in
    sym (c.entries.invariant.1 ∙ empty-here s _ _ _ _ p c.if-entry.true)

pub returns-then-same : goal.returns-then-same
returns-then-same c =
    let s = c.args.s.now in
    let e = c.in-Some.entry in
    let o = c.in-Some-next_part.other in
    let p = is_part 44 s c.entries.i e.start e.end e.next (sym c.in-Some.is ∙ c.next_part.ensures) in
    let q = is_part 44 s c.loop-other.j o.start o.end o.next (sym c.in-Some-next_part.is ∙ c.next_part-in-loop-other.ensures) in
    sym (c.entries.invariant.1 ∙ step-here s _ _ _ _ p c.if-entry.false
    ∙ ap (λ (t : Bool). not t && good (from s e.next)) (c.loop-other.invariant.1 ∙ found_here s _ _ _ _ q (slice s e.start e.end) c.same.ensures c.if-same.true))

pub returns-in_default : goal.returns-in_default
returns-in_default c = c.entries.invariant.0 ∙ sym (c.entries.invariant.1 ∙ none_left c.args.s.now c.entries.i (is_none _ _ _ (sym c.in_default.is ∙ c.next_part.ensures)))

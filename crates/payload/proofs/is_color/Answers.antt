use native.Mathlib.Omega.{arith}
use mathlib.Core.Path.{refl, sym, ◌∙◌}
use Rattle.times.proofs.Chains.{stop, go, no, yes, told, cond_yes, cond_no}
use Rattle.payload.specs.Colors.{color_values}
use Rattle.payload.proofs.Parting.{found, missing, no_color, color-parts}
use Rattle.payload.proofs.is_color.Goals as goal

pub returns-in_default : goal.returns-in_default
returns-in_default c = no_color c.args.format.now c.args.s.now (missing c.args.s.now 0 c.next_part.ensures c.in_default.is)

pub slice_bounds-model-count : goal.slice_bounds-model-count
slice_bounds-model-count c = let p = found c.args.s.now 0 c.next_part.ensures c.in-Some.is in omega arith

pub slice_bounds-model-start : goal.slice_bounds-model-start
slice_bounds-model-start c = let p = found c.args.s.now 0 c.next_part.ensures c.in-Some.is in omega arith

pub slice_bounds-model-end : goal.slice_bounds-model-end
slice_bounds-model-end c = let p = found c.args.s.now 0 c.next_part.ensures c.in-Some.is in omega arith

pub returns-then-not-has : goal.returns-then-not-has
unfolding color_values
returns-then-not-has c =
    stop _ (no c.has.ensures c.if-not-has.true-raw) ∙ sym (color-parts c.args.format.now c.args.s.now (found c.args.s.now 0 c.next_part.ensures c.in-Some.is))

pub returns-then-same : goal.returns-then-same
unfolding color_values
returns-then-same c =
    go (yes c.has.ensures c.if-not-has.false-raw) (cond_yes _ (told c.same.ensures c.if-same.true) c.are_floats.ensures) ∙ sym (color-parts c.args.format.now c.args.s.now (found c.args.s.now 0 c.next_part.ensures c.in-Some.is))

pub returns-then-same-2 : goal.returns-then-same-2
unfolding color_values
returns-then-same-2 c =
    go (yes c.has.ensures c.if-not-has.false-raw) (cond_no _ (told c.same.ensures c.if-same.false) (cond_yes _ (told c.same-2.ensures c.if-same-2.true) c.are_floats-then-same-2.ensures)) ∙ sym (color-parts c.args.format.now c.args.s.now (found c.args.s.now 0 c.next_part.ensures c.in-Some.is))

pub returns-then-same-3 : goal.returns-then-same-3
unfolding color_values
returns-then-same-3 c =
    go (yes c.has.ensures c.if-not-has.false-raw) (cond_no _ (told c.same.ensures c.if-same.false) (cond_no _ (told c.same-2.ensures c.if-same-2.false) (cond_yes _ (told c.same-3.ensures c.if-same-3.true) c.are_floats-then-same-3.ensures))) ∙ sym (color-parts c.args.format.now c.args.s.now (found c.args.s.now 0 c.next_part.ensures c.in-Some.is))

pub returns : goal.returns
unfolding color_values
returns c =
    go (yes c.has.ensures c.if-not-has.false-raw) (cond_no _ (told c.same.ensures c.if-same.false) (cond_no _ (told c.same-2.ensures c.if-same-2.false) (cond_no _ (told c.same-3.ensures c.if-same-3.false) refl))) ∙ sym (color-parts c.args.format.now c.args.s.now (found c.args.s.now 0 c.next_part.ensures c.in-Some.is))

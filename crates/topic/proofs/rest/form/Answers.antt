use mathlib.Core.Path.{sym, ◌∙◌}
use native.Mathlib.Omega.{arith}
use Rattle.topic.proofs.Answers.{placed, id_at, next_of, form-none, form_no, form-next, form-broadcast}
use Rattle.topic.proofs.rest.form.Goals as goal

pub returns-in_default : goal.returns-in_default
returns-in_default c = form-none _ _ (sym c.in_default.is ∙ c.next_part.ensures)

pub slice_bounds-same-count : goal.slice_bounds-same-count
slice_bounds-same-count c = let p = placed _ _ _ _ _ (sym c.in-Some.is ∙ c.next_part.ensures) in omega arith

pub slice_bounds-same-start : goal.slice_bounds-same-start
slice_bounds-same-start c = let p = placed _ _ _ _ _ (sym c.in-Some.is ∙ c.next_part.ensures) in omega arith

pub slice_bounds-same-end : goal.slice_bounds-same-end
slice_bounds-same-end c = let p = placed _ _ _ _ _ (sym c.in-Some.is ∙ c.next_part.ensures) in omega arith

pub returns-then-same : goal.returns-then-same
returns-then-same c = form-broadcast _ _ _ _ _ (sym c.in-Some.is ∙ c.next_part.ensures) (sym c.same.ensures ∙ c.if-same.true) _ (c.broadcast.ensures _)

pub slice_bounds-is_id-count : goal.slice_bounds-is_id-count
slice_bounds-is_id-count c = let p = placed _ _ _ _ _ (sym c.in-Some.is ∙ c.next_part.ensures) in omega arith

pub slice_bounds-is_id-start : goal.slice_bounds-is_id-start
slice_bounds-is_id-start c = let p = placed _ _ _ _ _ (sym c.in-Some.is ∙ c.next_part.ensures) in omega arith

pub slice_bounds-is_id-end : goal.slice_bounds-is_id-end
slice_bounds-is_id-end c = let p = placed _ _ _ _ _ (sym c.in-Some.is ∙ c.next_part.ensures) in omega arith

pub returns-then-not-is_id : goal.returns-then-not-is_id
returns-then-not-is_id c =
    form_no _ _ _ _ _ (sym c.in-Some.is ∙ c.next_part.ensures) (sym c.same.ensures ∙ c.if-same.false) (sym c.is_id.ensures ∙ c.if-not-is_id.true)

pub of_device-requires : goal.of_device-requires
of_device-requires c =
    (id_at _ _ _ _ _ (sym c.in-Some.is ∙ c.next_part.ensures) (sym c.is_id.ensures ∙ c.if-not-is_id.false), next_of _ _ _ _ _ (sym c.in-Some.is ∙ c.next_part.ensures))

pub returns : goal.returns
returns c = form-next _ _ _ _ _ (sym c.in-Some.is ∙ c.next_part.ensures) _ c.of_device.ensures

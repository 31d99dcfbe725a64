use mathlib.Core.Path.{sym, ◌∙◌}
use native.Mathlib.Omega.{arith}
use Rattle.topic.proofs.Answers.{placed, no-level, domain_no, domain_alone, version_no, version_yes}
use Rattle.topic.proofs.read.Goals as goal

pub returns-in_default : goal.returns-in_default
returns-in_default c = no-level _ _ (sym c.in_default.is ∙ c.next_part.ensures)

pub slice_bounds-same-count : goal.slice_bounds-same-count
slice_bounds-same-count c = let p = placed _ _ _ _ _ (sym c.in-Some.is ∙ c.next_part.ensures) in omega arith

pub slice_bounds-same-start : goal.slice_bounds-same-start
slice_bounds-same-start c = let p = placed _ _ _ _ _ (sym c.in-Some.is ∙ c.next_part.ensures) in omega arith

pub slice_bounds-same-end : goal.slice_bounds-same-end
slice_bounds-same-end c = let p = placed _ _ _ _ _ (sym c.in-Some.is ∙ c.next_part.ensures) in omega arith

pub returns-then-not-same : goal.returns-then-not-same
returns-then-not-same c = domain_no _ _ _ _ _ (sym c.in-Some.is ∙ c.next_part.ensures) (sym c.same.ensures ∙ c.if-not-same.true)

pub returns-in_default-next_part : goal.returns-in_default-next_part
returns-in_default-next_part c = domain_alone _ _ _ _ _ (sym c.in-Some.is ∙ c.next_part.ensures) (sym c.in_default-next_part.is ∙ c.next_part-2.ensures)

pub slice_bounds-same-count-2 : goal.slice_bounds-same-count-2
slice_bounds-same-count-2 c = let p = placed _ _ _ _ _ (sym c.in-Some-next_part.is ∙ c.next_part-2.ensures) in omega arith

pub slice_bounds-same-start-2 : goal.slice_bounds-same-start-2
slice_bounds-same-start-2 c = let p = placed _ _ _ _ _ (sym c.in-Some-next_part.is ∙ c.next_part-2.ensures) in omega arith

pub slice_bounds-same-end-2 : goal.slice_bounds-same-end-2
slice_bounds-same-end-2 c = let p = placed _ _ _ _ _ (sym c.in-Some-next_part.is ∙ c.next_part-2.ensures) in omega arith

pub returns-then-not-same-2 : goal.returns-then-not-same-2
returns-then-not-same-2 c =
    version_no _ _ _ _ _ (sym c.in-Some.is ∙ c.next_part.ensures) _ _ _ (sym c.in-Some-next_part.is ∙ c.next_part-2.ensures) (sym c.same-2.ensures ∙ c.if-not-same-2.true)

pub returns : goal.returns
returns c =
    version_yes _ _ _ _ _ (sym c.in-Some.is ∙ c.next_part.ensures) _ _ _ (sym c.in-Some-next_part.is ∙ c.next_part-2.ensures) (sym c.same.ensures ∙ c.if-not-same.false) (sym c.same-2.ensures ∙ c.if-not-same-2.false) _ c.form.ensures

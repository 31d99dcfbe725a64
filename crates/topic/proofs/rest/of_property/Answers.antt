use mathlib.Core.Path.{sym, ◌∙◌}
use native.Mathlib.Omega.{arith}
use Rattle.topic.proofs.Answers.{placed, value_yes, property-more, property_no, set_yes, target_yes}
use Rattle.topic.proofs.rest.of_property.Goals as goal

pub returns-in_default : goal.returns-in_default
returns-in_default c = value_yes _ _ _ _ _ c.requires.0 c.requires.1 c.requires.2 c.requires.3 c.requires.4 (sym c.in_default.is ∙ c.next_part.ensures)

pub returns-then-next-topic : goal.returns-then-next-topic
returns-then-next-topic c =
    property-more _ _ _ _ _ c.requires.0 c.requires.1 c.requires.2 c.requires.3 c.requires.4 _ _ _ (sym c.in-Some.is ∙ c.next_part.ensures) (omega arith)

pub slice_bounds-same-count : goal.slice_bounds-same-count
slice_bounds-same-count c = let p = placed _ _ _ _ _ (sym c.in-Some.is ∙ c.next_part.ensures) in omega arith

pub slice_bounds-same-start : goal.slice_bounds-same-start
slice_bounds-same-start c = let p = placed _ _ _ _ _ (sym c.in-Some.is ∙ c.next_part.ensures) in omega arith

pub slice_bounds-same-end : goal.slice_bounds-same-end
slice_bounds-same-end c = let p = placed _ _ _ _ _ (sym c.in-Some.is ∙ c.next_part.ensures) in omega arith

pub returns-then-same : goal.returns-then-same
returns-then-same c =
    set_yes _ _ _ _ _ c.requires.0 c.requires.1 c.requires.2 c.requires.3 c.requires.4 _ _ _ (sym c.in-Some.is ∙ c.next_part.ensures) (omega arith) (sym c.same.ensures ∙ c.if-same.true)

pub slice_bounds-same-count-2 : goal.slice_bounds-same-count-2
slice_bounds-same-count-2 c = let p = placed _ _ _ _ _ (sym c.in-Some.is ∙ c.next_part.ensures) in omega arith

pub slice_bounds-same-start-2 : goal.slice_bounds-same-start-2
slice_bounds-same-start-2 c = let p = placed _ _ _ _ _ (sym c.in-Some.is ∙ c.next_part.ensures) in omega arith

pub slice_bounds-same-end-3 : goal.slice_bounds-same-end-3
slice_bounds-same-end-3 c = let p = placed _ _ _ _ _ (sym c.in-Some.is ∙ c.next_part.ensures) in omega arith

pub returns-then-same-2 : goal.returns-then-same-2
returns-then-same-2 c =
    target_yes _ _ _ _ _ c.requires.0 c.requires.1 c.requires.2 c.requires.3 c.requires.4 _ _ _ (sym c.in-Some.is ∙ c.next_part.ensures) (omega arith) (sym c.same.ensures ∙ c.if-same.false) (sym c.same-2.ensures ∙ c.if-same-2.true)

pub returns : goal.returns
returns c =
    property_no _ _ _ _ _ c.requires.0 c.requires.1 c.requires.2 c.requires.3 c.requires.4 _ _ _ (sym c.in-Some.is ∙ c.next_part.ensures) (sym c.same.ensures ∙ c.if-same.false) (sym c.same-2.ensures ∙ c.if-same-2.false)

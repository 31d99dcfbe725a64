use mathlib.Core.Path.{sym, ◌∙◌}
use native.Mathlib.Omega.{arith}
use Rattle.topic.proofs.Answers.{placed, id_at, starts, node-none, node_no, node-next}
use Rattle.topic.proofs.rest.of_node.Goals as goal

pub returns-in_default : goal.returns-in_default
returns-in_default c = node-none _ _ _ _ c.requires.0 c.requires.1 (sym c.in_default.is ∙ c.next_part.ensures)

pub slice_bounds-is_id-count : goal.slice_bounds-is_id-count
slice_bounds-is_id-count c = let p = placed _ _ _ _ _ (sym c.in-Some.is ∙ c.next_part.ensures) in omega arith

pub slice_bounds-is_id-start : goal.slice_bounds-is_id-start
slice_bounds-is_id-start c = let p = placed _ _ _ _ _ (sym c.in-Some.is ∙ c.next_part.ensures) in omega arith

pub slice_bounds-is_id-end : goal.slice_bounds-is_id-end
slice_bounds-is_id-end c = let p = placed _ _ _ _ _ (sym c.in-Some.is ∙ c.next_part.ensures) in omega arith

pub returns-then-not-is_id : goal.returns-then-not-is_id
returns-then-not-is_id c = node_no _ _ _ _ c.requires.0 c.requires.1 _ _ _ (sym c.in-Some.is ∙ c.next_part.ensures) (sym c.is_id.ensures ∙ c.if-not-is_id.true)

pub of_property-requires : goal.of_property-requires
of_property-requires c =
    (c.requires.0, c.requires.1, id_at _ _ _ _ _ (sym c.in-Some.is ∙ c.next_part.ensures) (sym c.is_id.ensures ∙ c.if-not-is_id.false), c.requires.2, starts _ _ _ _ _ (sym c.in-Some.is ∙ c.next_part.ensures) c.requires.3)

pub returns : goal.returns
returns c = node-next _ _ _ _ c.requires.0 c.requires.1 _ _ _ (sym c.in-Some.is ∙ c.next_part.ensures) _ c.of_property.ensures

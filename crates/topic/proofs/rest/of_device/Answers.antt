use mathlib.Core.Path.{sym, ◌∙◌}
use native.Mathlib.Omega.{arith}
use Rattle.topic.proofs.Answers.{placed, id_at, word_at, starts, next_of, device-none, device-next}
use Rattle.topic.proofs.rest.of_device.Goals as goal

pub returns-in_default : goal.returns-in_default
returns-in_default c = device-none _ _ _ c.requires.0 (sym c.in_default.is ∙ c.next_part.ensures)

pub slice_bounds-is_id-count : goal.slice_bounds-is_id-count
slice_bounds-is_id-count c = let p = placed _ _ _ _ _ (sym c.in-Some.is ∙ c.next_part.ensures) in omega arith

pub slice_bounds-is_id-start : goal.slice_bounds-is_id-start
slice_bounds-is_id-start c = let p = placed _ _ _ _ _ (sym c.in-Some.is ∙ c.next_part.ensures) in omega arith

pub slice_bounds-is_id-end : goal.slice_bounds-is_id-end
slice_bounds-is_id-end c = let p = placed _ _ _ _ _ (sym c.in-Some.is ∙ c.next_part.ensures) in omega arith

pub of_node-requires : goal.of_node-requires
of_node-requires c =
    (c.requires.0, id_at _ _ _ _ _ (sym c.in-Some.is ∙ c.next_part.ensures) (sym c.is_id.ensures ∙ c.if-is_id.true), starts _ _ _ _ _ (sym c.in-Some.is ∙ c.next_part.ensures) c.requires.1, next_of _ _ _ _ _ (sym c.in-Some.is ∙ c.next_part.ensures))

pub returns-then-is_id : goal.returns-then-is_id
returns-then-is_id c = device-next _ _ _ c.requires.0 _ _ _ (sym c.in-Some.is ∙ c.next_part.ensures) _ c.of_node.ensures

pub of_word-requires : goal.of_word-requires
of_word-requires c =
    (c.requires.0, word_at _ _ _ _ _ (sym c.in-Some.is ∙ c.next_part.ensures) (sym c.is_id.ensures ∙ c.if-is_id.false), starts _ _ _ _ _ (sym c.in-Some.is ∙ c.next_part.ensures) c.requires.1, next_of _ _ _ _ _ (sym c.in-Some.is ∙ c.next_part.ensures))

pub returns : goal.returns
returns c = device-next _ _ _ c.requires.0 _ _ _ (sym c.in-Some.is ∙ c.next_part.ensures) _ c.of_word.ensures

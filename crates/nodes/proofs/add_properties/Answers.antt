use mathlib.Core.Path.{sym, ◌∙◌}
use native.Mathlib.Omega.{arith}
use Rattle.json_text.proofs.Bytes.{inside=}
use Rattle.fields.proofs.Walk.{item-lies, item_is, no-members, first_member}
use Rattle.nodes.specs.Nodes.{property_member}
use Rattle.nodes.specs.Parts.{item_of}
use Rattle.nodes.proofs.Adding.{turn-none, turn-first, turn-done, turn-next}
use Rattle.nodes.proofs.Nodes.{of_properties, one-property, adds_one}
use Rattle.nodes.proofs.add_properties.Goals as goal

pub returns-then-peek-ne123 : goal.returns-then-peek-ne123
unfolding of_properties
returns-then-peek-ne123 c = λ h. turn-none (of_properties _ _ _) _ _ (no-members (λ ms. ms) _ _ c.peek.ensures c.if-peek-ne123.true)

pub overflow_add-at : goal.overflow_add-at
overflow_add-at c = let h = inside= c.args.s.now _ 123 (sym c.peek.ensures ∙ c.if-peek-ne123.false) (omega arith) in omega arith

pub loop-member-init : goal.loop-member-init
loop-member-init c =
    let h = inside= c.args.s.now _ 123 (sym c.peek.ensures ∙ c.if-peek-ne123.false) (omega arith) in record { within = omega (arith, c.skip-i.ensures.to); turn = λ e. turn-first (of_properties _ _ _) _ _ (first_member (λ ms. ms) _ _ c.peek.ensures c.if-peek-ne123.false c.skip-i.ensures.is (omega (arith, c.skip-i.ensures.to))) }

pub returns : goal.returns
unfolding of_properties
returns c = λ h. turn-done (of_properties _ _ _) _ (c.loop-member.invariant.turn h) (sym (c.member_by.ensures.is h) ∙ c.in_default.is)

pub loop-member-preserved : goal.loop-member-preserved
loop-member-preserved c =
    let l = item-lies _ c.member_by.ensures c.in-Some.is in record { within = omega arith; turn = λ h. turn-next (of_properties _ _ _) _ (c.loop-member.invariant.turn h) (item_is _ c.member_by.ensures c.in-Some.is h) (one-property _ _ _ _ _ _ (adds_one _ (item_of _ _ _) (property_member _ _ (item_of _ _ _)) (c.property_member-p.ensures h (record { end = _; next = _; got = item_is _ c.member_by.ensures c.in-Some.is h }) _) c.earlier-told.ensures (c.insert-list.ensures h))) }

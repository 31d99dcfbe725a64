use mathlib.Core.Path.{refl, sym, ◌∙◌}
use native.Mathlib.Omega.{arith}
use Rattle.json_text.proofs.Bytes.{inside=}
use Rattle.fields.proofs.Walk.{item-lies, item_is}
use Rattle.fields.proofs.Numbers.{zeros, at_none}
use Rattle.fields.proofs.Fields.{note-none, note-first, note-done, note-more}
use Rattle.fields.proofs.known_fields.Goals as goal

pub returns-then-peek-ne123 : goal.returns-then-peek-ne123
returns-then-peek-ne123 c = λ h. note-none _ _ _ c.peek.ensures _ (λ j. at_none _ j (zeros 16 j)) c.if-peek-ne123.true _ refl refl

pub overflow_add-at : goal.overflow_add-at
overflow_add-at c = let h = inside= c.args.s.now _ 123 (sym c.peek.ensures ∙ c.if-peek-ne123.false) (omega arith) in omega arith

pub loop-member-init : goal.loop-member-init
loop-member-init c =
    let h = inside= c.args.s.now _ 123 (sym c.peek.ensures ∙ c.if-peek-ne123.false) (omega arith) in record { from = omega (arith, c.skip-i.ensures.from); below = λ j. omega (arith, zeros 16 j, c.skip-i.ensures.from); going = λ e. note-first _ _ _ c.peek.ensures _ (λ j. at_none _ j (zeros 16 j)) refl c.if-peek-ne123.false c.skip-i.ensures.is (omega (arith, c.skip-i.ensures.to)) }

pub loop-member-preserved : goal.loop-member-preserved
loop-member-preserved c =
    let l = item-lies _ c.member_by.ensures c.in-Some.is in record { from = omega arith; below = c.see.ensures.below _ (omega arith) (λ j. let b = c.loop-member.invariant.below j in omega arith); going = λ h. note-more _ _ _ _ _ _ (c.loop-member.invariant.going h) (item_is _ c.member_by.ensures c.in-Some.is h) (c.named_at-name.ensures h) (c.loop-member.invariant.below _) (c.more_told-told.ensures h (c.named_at-name.ensures h)) c.see.ensures c.loop-member.invariant.from }

pub returns : goal.returns
returns c = λ h. note-done _ _ _ _ _ _ (c.loop-member.invariant.going h) (sym (c.member_by.ensures.is h) ∙ c.in_default.is) _ refl refl

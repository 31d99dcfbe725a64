use mathlib.Core.Path.{sym, ap, ◌∙◌}
use native.Mathlib.Omega.{arith}
use Rattle.json_text.specs.Strings.{is_plain}
use Rattle.json_text.proofs.Bytes.{inside=}
use Rattle.fields.proofs.Walk.{item_is}
use Rattle.fields.proofs.Fields.{look_none, look-first, look-done, look-found, look_miss, alike_this, own-found}
use Rattle.fields.proofs.first_named.Goals as goal

pub returns-then-peek-ne123 : goal.returns-then-peek-ne123
returns-then-peek-ne123 c = λ h q w. look_none _ _ _ c.peek.ensures c.if-peek-ne123.true

pub overflow_add-at : goal.overflow_add-at
overflow_add-at c = let h = inside= c.args.s.now _ 123 (sym c.peek.ensures ∙ c.if-peek-ne123.false) (omega arith) in omega arith

pub loop-i-init : goal.loop-i-init
loop-i-init c =
    let h = inside= c.args.s.now _ 123 (sym c.peek.ensures ∙ c.if-peek-ne123.false) (omega arith) in λ e q w. look-first _ _ _ c.peek.ensures c.if-peek-ne123.false c.skip-i.ensures.is (omega (arith, c.skip-i.ensures.to))

pub returns-in_err-member : goal.returns-in_err-member
returns-in_err-member c =
    λ h q w. c.from_residual.ensures ∙ look-done _ _ _ _ (c.loop-i.invariant h q w) (sym (c.member_by.ensures.is h) ∙ c.in_err-member.was)

pub returns-then-is_alike : goal.returns-then-is_alike
returns-then-is_alike c =
    λ h q w. look-found _ _ _ (c.loop-i.invariant h q w) (item_is _ c.member_by.ensures c.in_ok-member.was h) (alike_this _ _ q _ (c.raw_bytes_by-raw.ensures h) (c.is_alike.ensures h (c.is_plain_by-plain.ensures h ∙ ap is_plain (sym (c.raw_bytes_by-raw.ensures h))))) c.if-is_alike.true

pub loop-i-preserved : goal.loop-i-preserved
loop-i-preserved c =
    λ h q w. look_miss _ _ _ _ (c.loop-i.invariant h q w) (item_is _ c.member_by.ensures c.in_ok-member.was h) (alike_this _ _ q _ (c.raw_bytes_by-raw.ensures h) (c.is_alike.ensures h (c.is_plain_by-plain.ensures h ∙ ap is_plain (sym (c.raw_bytes_by-raw.ensures h))))) c.if-is_alike.false

pub returns : goal.returns
returns c = λ h q w. own-found _ _ q (c.loop-i.invariant h q w) c.loop-i-test.false w

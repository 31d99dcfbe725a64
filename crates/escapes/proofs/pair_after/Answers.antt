use native.Mathlib.Omega.{arith}
use mathlib.Core.Path.{sym, ap, ◌∙◌}
use Rattle.escapes.specs.Escapes.{is_low}
use Rattle.escapes.proofs.Escapes.{pair_6, pair_7, pair-not, pair_made, high_range, low_range}
use Rattle.escapes.proofs.pair_after.Goals as goal

pub returns-then-peek-ne92 : goal.returns-then-peek-ne92
returns-then-peek-ne92 c = pair_6 _ _ (λ q. c.if-peek-ne92.true (c.peek.ensures ∙ q))

pub returns-then-peek-ne117 : goal.returns-then-peek-ne117
returns-then-peek-ne117 c = pair_7 _ _ (sym c.peek.ensures ∙ c.if-peek-ne92.false) (λ q. c.if-peek-ne117.true (c.peek-2.ensures ∙ q))

pub returns-then-not-is_low : goal.returns-then-not-is_low
returns-then-not-is_low c =
    pair-not _ _ (sym c.peek.ensures ∙ c.if-peek-ne92.false) (sym c.peek-2.ensures ∙ c.if-peek-ne117.false) (ap is_low (sym c.code_unit-l.ensures) ∙ sym c.is_low.ensures ∙ c.if-not-is_low.true)

pub overflow_sub-result : goal.overflow_sub-result
overflow_sub-result c = let h = high_range _ c.requires in omega arith

pub overflow_mul-result : goal.overflow_mul-result
overflow_mul-result c = let h = high_range _ c.requires in omega arith

pub overflow_sub-result-2 : goal.overflow_sub-result-2
overflow_sub-result-2 c = let h = low_range _ (sym c.is_low.ensures ∙ c.if-not-is_low.false) in omega arith

pub overflow_add-result : goal.overflow_add-result
overflow_add-result c = let h = high_range _ c.requires in let k = low_range _ (sym c.is_low.ensures ∙ c.if-not-is_low.false) in omega arith

pub overflow_add-result-2 : goal.overflow_add-result-2
overflow_add-result-2 c = let h = high_range _ c.requires in let k = low_range _ (sym c.is_low.ensures ∙ c.if-not-is_low.false) in omega arith

pub returns : goal.returns
returns c =
    pair_made _ _ (sym c.peek.ensures ∙ c.if-peek-ne92.false) (sym c.peek-2.ensures ∙ c.if-peek-ne117.false) c.code_unit-l.ensures (sym c.is_low.ensures ∙ c.if-not-is_low.false)

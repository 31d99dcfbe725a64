use mathlib.Core.Path.{sym, ◌∙◌}
use Rattle.escapes.proofs.Escapes.{short-made, high-made, low-made, char_made}
use Rattle.escapes.proofs.escape_of.Goals as goal

pub returns-then-b-ne117 : goal.returns-then-b-ne117
returns-then-b-ne117 c = short-made _ c.peek-b.ensures c.if-b-ne117.true c.short.ensures

pub returns-then-is_high : goal.returns-then-is_high
returns-then-is_high c = high-made _ c.peek-b.ensures c.if-b-ne117.false c.code_unit-u.ensures (sym c.is_high.ensures ∙ c.if-is_high.true) c.pair_after.ensures

pub returns-then-is_low : goal.returns-then-is_low
returns-then-is_low c =
    low-made _ c.peek-b.ensures c.if-b-ne117.false c.code_unit-u.ensures (sym c.is_high.ensures ∙ c.if-is_high.false) (sym c.is_low.ensures ∙ c.if-is_low.true)

pub returns : goal.returns
returns c =
    char_made _ c.peek-b.ensures c.if-b-ne117.false c.code_unit-u.ensures (sym c.is_high.ensures ∙ c.if-is_high.false) (sym c.is_low.ensures ∙ c.if-is_low.false)

use mathlib.Core.Path.{sym, ◌∙◌}
use Rattle.json_text.proofs.Values.{spell-more, spell_miss, spell-done}
use Rattle.json_text.proofs.literal.Goals as goal

pub returns-then-peek-from : goal.returns-then-peek-from
returns-then-peek-from c = spell_miss c.loop-i.invariant c.loop-i-test.true c.peek.ensures (λ q. c.if-peek-from.true (q ∙ sym c.from.ensures))

pub loop-i-preserved : goal.loop-i-preserved
loop-i-preserved c = spell-more c.loop-i.invariant c.loop-i-test.true c.peek.ensures (c.if-peek-from.false ∙ c.from.ensures) (c.type_inv.w c.loop-i.i).fits

pub returns : goal.returns
returns c = spell-done c.loop-i.invariant c.loop-i-test.false

use mathlib.Core.Path.{refl}
use Rattle.json_text.specs.Number.{is_digit, digits_end}
use Rattle.json_text.proofs.Bytes.{passing-more, passing-stop, passing-out}
use Rattle.json_text.proofs.number.digits.Goals as goal

pub returns-then-not-is_digit : goal.returns-then-not-is_digit
unfolding digits_end
returns-then-not-is_digit c = passing-stop c.loop-i.invariant c.loop-i-test.true c.from.ensures c.is_digit.ensures c.if-not-is_digit.true

pub loop-i-preserved : goal.loop-i-preserved
loop-i-preserved c = passing-more c.loop-i.invariant c.loop-i-test.true c.from.ensures c.is_digit.ensures c.if-not-is_digit.false

pub returns : goal.returns
unfolding digits_end is_digit
returns c = passing-out c.loop-i.invariant refl c.loop-i-test.false c.max.ensures

use Rattle.numbers.proofs.Naturals.{none, start, end, end-over, one_more, other, much}
use mathlib.Core.Path.{sym}
use borrow.Author.Rules.{rules}
use Rattle.numbers.proofs.integers.read_natural.Goals as goal

pub returns-then-is_empty : goal.returns-then-is_empty
returns-then-is_empty c = none _ (sym c.if-is_empty.ensures)

pub loop-d-init : goal.loop-d-init
loop-d-init c = start _ (sym c.if-is_empty.ensures)

pub returns-then-not-is_ascii_digit : goal.returns-then-not-is_ascii_digit
returns-then-not-is_ascii_digit c = other c.loop-d.invariant c.loop-d-test.true c.if-not-is_ascii_digit.ensures.value

pub returns-then-a-gt922337203685477580 : goal.returns-then-a-gt922337203685477580
returns-then-a-gt922337203685477580 c = much c.loop-d.invariant c.loop-d-test.true c.if-not-is_ascii_digit.ensures.value c.if-a-gt922337203685477580.true

pub loop-d-preserved : goal.loop-d-preserved
loop-d-preserved c = one_more c.loop-d.invariant c.loop-d-test.true c.if-not-is_ascii_digit.ensures.value c.if-a-gt922337203685477580.false c.from.ensures

pub returns-then-a-le9223372036854775808 : goal.returns-then-a-le9223372036854775808
returns-then-a-le9223372036854775808 c = search (rules, end)

pub returns-else-a-le9223372036854775808 : goal.returns-else-a-le9223372036854775808
returns-else-a-le9223372036854775808 c = search (rules, end-over)

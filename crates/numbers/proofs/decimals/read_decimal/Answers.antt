use Rattle.numbers.proofs.FixedReading.{below-zero, not-below, fixed-below, fixed_plain}
use borrow.Author.Rules.{rules}
use Rattle.numbers.proofs.decimals.read_decimal.Goals as goal

pub returns-then-has : goal.returns-then-has
returns-then-has c = search (rules, below-zero, fixed-below)

pub returns-else-has : goal.returns-else-has
returns-else-has c = search (rules, not-below, fixed_plain)

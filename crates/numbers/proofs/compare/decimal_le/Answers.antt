use Rattle.numbers.proofs.Order.{below-zero, zeros, over_zero, above_zero}
use borrow.Author.Rules.{rules}
use Rattle.numbers.proofs.compare.decimal_le.Goals as goal

pub returns-in-true-true : goal.returns-in-true-true
returns-in-true-true c = search (rules, below-zero)

pub returns-then-a-eq0 : goal.returns-then-a-eq0
returns-then-a-eq0 c = search (rules, zeros)

pub returns-else-a-eq0 : goal.returns-else-a-eq0
returns-else-a-eq0 c = search (rules, over_zero)

pub returns-in-false-false : goal.returns-in-false-false
returns-in-false-false c = search (rules, above_zero)

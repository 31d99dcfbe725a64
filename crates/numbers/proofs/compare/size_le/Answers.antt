use Rattle.numbers.proofs.Order.{left_higher, right_higher}
use borrow.Author.Rules.{rules}
use Rattle.numbers.proofs.compare.size_le.Goals as goal

pub returns-then-eb-ea : goal.returns-then-eb-ea
returns-then-eb-ea c = search (rules, left_higher)

pub returns : goal.returns
returns c = search (rules, right_higher)

use Rattle.numbers.proofs.Endings.{minus, plus, junk}
use borrow.Author.Rules.{rules}
use Rattle.numbers.proofs.decimals.read_exponent.Goals as goal

pub returns-then-has : goal.returns-then-has
returns-then-has c = search (rules, minus)

pub returns-else-has : goal.returns-else-has
returns-else-has c = search (rules, plus)

pub returns-else-is_e : goal.returns-else-is_e
returns-else-is_e c = search (rules, junk)

use Rattle.numbers.proofs.Rounding.{down, up}
use borrow.Author.Rules.{rules}
use Rattle.numbers.proofs.steps.to_step.Goals as goal

pub returns-then-r-s : goal.returns-then-r-s
returns-then-r-s c = search (rules, down)

pub returns-else-r-s : goal.returns-else-r-s
returns-else-r-s c = search (rules, up)

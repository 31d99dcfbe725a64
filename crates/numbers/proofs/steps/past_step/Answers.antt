use Rattle.numbers.proofs.Rounding.{at_above, at-step, under}
use borrow.Author.Rules.{rules}
use Rattle.numbers.proofs.steps.past_step.Goals as goal

pub returns-then-b-v : goal.returns-then-b-v
returns-then-b-v c = search (rules, at_above)

pub returns-then-t-eq0 : goal.returns-then-t-eq0
returns-then-t-eq0 c = search (rules, at-step)

pub returns-else-t-eq0 : goal.returns-else-t-eq0
returns-else-t-eq0 c = search (rules, under)

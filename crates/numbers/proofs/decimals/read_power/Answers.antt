use Rattle.numbers.proofs.Endings.{none, bad, down, up}
use borrow.Author.Rules.{rules}
use Rattle.numbers.proofs.decimals.read_power.Goals as goal

pub returns-in_err-value : goal.returns-in_err-value
returns-in_err-value c = search (rules, none)

pub returns-then-at-s : goal.returns-then-at-s
returns-then-at-s c = bad _ _ _ _ c.args.s.now _ _ _ c.in_ok-value.ensures.meant c.then-at-s.either

pub returns-then-below : goal.returns-then-below
returns-then-below c = search (rules, down)

pub returns-else-below : goal.returns-else-below
returns-else-below c = search (rules, up)

use Rattle.numbers.proofs.Endings.{f-bad, f-power, f-end, f-none}
use borrow.Author.Rules.{rules}
use Rattle.numbers.proofs.decimals.read_fraction.Goals as goal

pub returns-in_err-value : goal.returns-in_err-value
returns-in_err-value c = search (rules, f-none)

pub returns-then-count-n : goal.returns-then-count-n
returns-then-count-n c = search (rules, f-bad)

pub returns-then-next-s : goal.returns-then-next-s
returns-then-next-s c = search (rules, f-power)

pub returns : goal.returns
returns c = search (rules, f-end)

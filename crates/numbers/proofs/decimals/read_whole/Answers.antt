use Rattle.numbers.proofs.Endings.{w-bad, w-end, w_point, w-power, w-none}
use borrow.Author.Rules.{rules}
use Rattle.numbers.proofs.decimals.read_whole.Goals as goal

pub returns-in_err-value : goal.returns-in_err-value
returns-in_err-value c = search (rules, w-none)

pub returns-then-count-eq0 : goal.returns-then-count-eq0
returns-then-count-eq0 c = search (rules, w-bad)

pub returns-then-s-next : goal.returns-then-s-next
returns-then-s-next c = search (rules, w-end)

pub returns-then-has : goal.returns-then-has
returns-then-has c = search (rules, w_point)

pub returns : goal.returns
returns c = search (rules, w-power)

use Rattle.numbers.proofs.Endings.{end}
use borrow.Author.Rules.{rules}
use Rattle.numbers.proofs.decimals.ended.Goals as goal

pub returns : goal.returns
returns c = search (rules, end)

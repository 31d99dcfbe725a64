use mathlib.Core.Path.{sym, ◌∙◌}
use borrow.Author.Rules.{rules}
use Rattle.times.proofs.Dates.{no_century, no_year, no_month, no_day, a_date}
use Rattle.times.proofs.date.Goals as goal

pub returns-in_default : goal.returns-in_default
returns-in_default c = no_year _ c.in_default.ensures c.in_default.ensures'

pub returns-in_default-3 : goal.returns-in_default-3
returns-in_default-3 c = no_century _ (sym c.in_default.is-0 ∙ c.pair.ensures)

pub returns-in_default-2 : goal.returns-in_default-2
returns-in_default-2 c = no_day _ c.in-Some-Some.ensures c.in-Some-Some.ensures' c.in_default-2.ensures c.in_default-2.ensures'

pub returns-in_default-2-2 : goal.returns-in_default-2-2
returns-in_default-2-2 c = no_month _ c.in-Some-Some.ensures c.in-Some-Some.ensures' (sym c.in_default-2.is-0 ∙ c.pair-3.ensures)

pub returns-then-has-2 : goal.returns-then-has-2
returns-then-has-2 c = rw (a_date _ c.in-Some-Some.ensures c.in-Some-Some.ensures' c.in-Some-Some-2.ensures c.in-Some-Some-2.ensures') (search rules)

pub returns-else-has-2 : goal.returns-else-has-2
returns-else-has-2 c = rw (a_date _ c.in-Some-Some.ensures c.in-Some-Some.ensures' c.in-Some-Some-2.ensures c.in-Some-Some-2.ensures') (search rules)

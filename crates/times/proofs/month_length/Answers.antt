use native.Mathlib.Omega.{arith}
use Rattle.times.proofs.Dates.{leap-february, february, thirty, thirty-one}
use Rattle.times.proofs.month_length.Goals as goal

pub returns-then-is_leap : goal.returns-then-is_leap
returns-then-is_leap c = leap-february _ _ c.in-2.is c.is_leap.ensures c.if-is_leap.true

pub returns-else-is_leap : goal.returns-else-is_leap
returns-else-is_leap c = february _ _ c.in-2.is c.is_leap.ensures c.if-is_leap.false

pub returns-in-4 : goal.returns-in-4
returns-in-4 c = thirty _ _ c.in-4.is

pub returns-in_default : goal.returns-in_default
returns-in_default c = thirty-one _ _ (λ e. omega arith) (omega arith)

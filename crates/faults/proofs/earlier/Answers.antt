use Rattle.faults.proofs.Laws.{none_first, one_alone, lesser_first}
use Rattle.faults.proofs.earlier.Goals as goal

pub returns-in-Some-Some : goal.returns-in-Some-Some
returns-in-Some-Some c = lesser_first c.in-Some-Some.is-0 c.in-Some-Some.is-1 c.min.ensures

pub returns-in-Some-None : goal.returns-in-Some-None
returns-in-Some-None c = one_alone c.in-Some-None.is-0 c.in-Some-None.is-1

pub returns-in-None-default : goal.returns-in-None-default
returns-in-None-default c = none_first c.in-None-default.is-0

use Rattle.fields.proofs.Fields.{flag-absent, flag-first}
use Rattle.fields.proofs.flag_in.Goals as goal

pub returns-in-None : goal.returns-in-None
returns-in-None c = flag-absent _ _ c.in-None.is

pub returns-in-Some : goal.returns-in-Some
returns-in-Some c = flag-first _ _ c.in-Some.is c.is_true.ensures

use mathlib.Core.Path.{refl}
use Rattle.faults.proofs.Laws.{is-told}
use Rattle.properties.proofs.Rules.{named-bad, named_known}
use Rattle.properties.proofs.type_named.Goals as goal

pub returns-in-None : goal.returns-in-None
returns-in-None c = named-bad _ _ _ c.read_datatype-name.ensures c.in-None.is (is-told c.at.ensures)

pub returns-in-Some : goal.returns-in-Some
returns-in-Some c = named_known _ _ _ c.read_datatype-name.ensures c.in-Some.is refl

use mathlib.Core.Path.{refl}
use Rattle.faults.proofs.Laws.{is-told}
use Rattle.properties.proofs.Rules.{format-missing, format_default}
use Rattle.properties.proofs.no_format.Goals as goal

pub returns-in_default : goal.returns-in_default
returns-in_default c = λ h. format-missing _ _ _ _ c.in_default.ensures refl refl (c.close_of-brace.ensures h) (is-told c.at.ensures)

pub returns : goal.returns
returns c = λ h. format_default _ _ _ _ c.in-Some.ensures refl refl refl

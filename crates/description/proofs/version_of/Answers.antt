use mathlib.Core.Path.{refl, ◌∙◌}
use Rattle.faults.proofs.Laws.{is-told}
use Rattle.description.proofs.Device.{version-missing, version_kind, version_wrong, version-right}
use Rattle.description.proofs.version_of.Goals as goal

pub returns-in_default : goal.returns-in_default
returns-in_default c = λ h. version-missing _ _ c.in_default.is (c.close_of.ensures h) (c.no_version.ensures ∙ is-told c.at.ensures)

pub returns-then-not-is_number : goal.returns-then-not-is_number
returns-then-not-is_number c = λ h. version_kind _ _ c.in-Some.is c.is_number.ensures c.if-not-is_number.true (c.no_version-then-not-is_number.ensures ∙ is-told c.at-then-not-is_number.ensures)

pub returns-in-None : goal.returns-in-None
returns-in-None c =
    λ h. version_wrong _ _ c.in-Some.is c.is_number.ensures c.if-not-is_number.false (c.value_bytes_by.ensures h) _ c.read_integer.ensures c.in-None.is (c.no_version-in-None.ensures ∙ is-told c.at-in-None.ensures)

pub returns-in-Some-read_integer : goal.returns-in-Some-read_integer
returns-in-Some-read_integer c =
    λ h. version-right _ _ c.in-Some.is c.is_number.ensures c.if-not-is_number.false (c.value_bytes_by.ensures h) _ c.read_integer.ensures c.in-Some-read_integer.is refl refl

use mathlib.Core.Path.{refl}
use Rattle.faults.proofs.Laws.{is-told}
use Rattle.properties.proofs.Rules.{type-absent, type-other, type-read, type-sent}
use Rattle.properties.proofs.datatype_of.Goals as goal

pub returns-in_default : goal.returns-in_default
returns-in_default c = λ h. type-absent _ _ _ _ c.in_default.is (c.close_of-close.ensures h) (is-told c.at.ensures) refl

pub returns-then-not-is_string : goal.returns-then-not-is_string
returns-then-not-is_string c = λ h. type-other _ _ _ _ c.in-Some.is c.is_string.ensures c.if-not-is_string.true (is-told c.at-then-not-is_string.ensures) refl

pub returns-in-None : goal.returns-in-None
returns-in-None c = λ h. type-read _ _ _ _ c.in-Some.is c.is_string.ensures c.if-not-is_string.false c.decoded_type.ensures

pub returns-in-Some-name : goal.returns-in-Some-name
returns-in-Some-name c =
    λ h. type-sent _ _ _ _ c.in-Some.is c.is_string.ensures c.if-not-is_string.false (c.raw_bytes_by.ensures h) c.read_datatype-name.ensures c.in-Some-name.is refl

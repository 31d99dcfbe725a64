use Rattle.faults.proofs.Laws.{told-as}
use Rattle.description.proofs.Device.{parent-absent, parent_kind, parent_alone, parent-right}
use Rattle.description.proofs.parent_told.Goals as goal

pub returns-in_default : goal.returns-in_default
returns-in_default c = λ h. parent-absent _ _ _ c.in_default.is

pub returns-then-not-is_string : goal.returns-then-not-is_string
returns-then-not-is_string c = λ h. told-as c.at.ensures (parent_kind _ _ _ c.in-Some.is c.is_string.ensures c.if-not-is_string.true)

pub returns-then-not-is_present : goal.returns-then-not-is_present
returns-then-not-is_present c =
    λ h. parent_alone _ _ _ c.in-Some.is c.is_string.ensures c.if-not-is_string.false c.is_present.ensures c.if-not-is_present.true (c.rootless_told.ensures h _)

pub returns : goal.returns
returns c =
    λ h. parent-right _ _ _ c.in-Some.is c.is_string.ensures c.if-not-is_string.false c.is_present.ensures c.if-not-is_present.false (c.relative_told.ensures h)

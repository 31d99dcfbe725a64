use Rattle.faults.proofs.Laws.{told-as}
use Rattle.description.proofs.Device.{root-absent, root_kind, root-right}
use Rattle.description.proofs.root_told.Goals as goal

pub returns-in_default : goal.returns-in_default
returns-in_default c = λ h. root-absent _ _ c.in_default.is

pub returns-then-not-is_string : goal.returns-then-not-is_string
returns-then-not-is_string c = λ h. told-as c.at.ensures (root_kind _ _ c.in-Some.is c.is_string.ensures c.if-not-is_string.true)

pub returns : goal.returns
returns c = λ h. root-right _ _ c.in-Some.is c.is_string.ensures c.if-not-is_string.false (c.relative_told.ensures h)

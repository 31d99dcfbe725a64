use Rattle.fields.proofs.Fields.{told-absent, told-first}
use Rattle.fields.proofs.field_told.Goals as goal

pub returns-in-None : goal.returns-in-None
returns-in-None c = λ h. told-absent _ _ c.in-None.is

pub returns-in-Some : goal.returns-in-Some
returns-in-Some c = λ h. told-first _ _ c.in-Some.is (c.kind_told.ensures h)

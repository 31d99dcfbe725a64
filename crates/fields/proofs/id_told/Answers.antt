use Rattle.faults.proofs.Laws.{told-as}
use Rattle.fields.specs.Fields.{id_faults}
use Rattle.fields.proofs.Values.{kind-other, kind-right}
use Rattle.fields.proofs.id_told.Goals as goal

pub returns-then-not-is_string : goal.returns-then-not-is_string
unfolding id_faults
returns-then-not-is_string c = λ h. told-as c.at.ensures (kind-other _ _ c.is_string.ensures c.if-not-is_string.true)

pub returns : goal.returns
unfolding id_faults
returns c = λ h. kind-right _ _ c.is_string.ensures c.if-not-is_string.false (c.id_name_told.ensures h)

use mathlib.Core.Path.{◌∙◌}
use Rattle.faults.proofs.Laws.{is-told}
use Rattle.description.proofs.Whole.{device_kind, device-right}
use Rattle.description.proofs.device_at.Goals as goal

pub returns-then-not-is_object : goal.returns-then-not-is_object
returns-then-not-is_object c = λ h. device_kind _ _ _ c.is_object.ensures c.if-not-is_object.true (c.refused.ensures ∙ is-told c.at.ensures)

pub returns : goal.returns
returns c = λ h. device-right _ _ _ c.is_object.ensures c.if-not-is_object.false (c.device_by.ensures h (c.known_fields.ensures h))

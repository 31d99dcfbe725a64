use Rattle.faults.proofs.Laws.{is-told}
use Rattle.properties.proofs.Rules.{judge-other, judge-object}
use Rattle.properties.proofs.property_at.Goals as goal

pub returns-then-not-is_object : goal.returns-then-not-is_object
returns-then-not-is_object c = λ h. judge-other _ _ _ _ c.is_object.ensures c.if-not-is_object.true (is-told c.at.ensures)

pub returns : goal.returns
returns c = λ h. judge-object _ _ _ _ c.is_object.ensures c.if-not-is_object.false (c.property_by.ensures h (c.known_fields.ensures h))

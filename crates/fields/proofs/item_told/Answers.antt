use Rattle.fields.proofs.Values.{item-id, item-text}
use Rattle.fields.proofs.item_told.Goals as goal

pub returns-then-ids : goal.returns-then-ids
returns-then-ids c = λ h. item-id _ _ c.if-ids.true (c.id_told.ensures h)

pub returns : goal.returns
returns c = λ h. item-text _ _ c.if-ids.false c.string_told.ensures

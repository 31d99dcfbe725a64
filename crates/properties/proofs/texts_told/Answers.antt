use Rattle.properties.proofs.Rules.{texts}
use Rattle.properties.proofs.texts_told.Goals as goal

pub returns : goal.returns
returns c =
    λ h. texts _ _ c.earlier.ensures c.get.ensures (c.field_told-name.ensures h) c.get-2.ensures (c.field_told-unit.ensures h)

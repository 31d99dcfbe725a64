use Rattle.properties.proofs.Rules.{flags}
use Rattle.properties.proofs.flags_told.Goals as goal

pub returns : goal.returns
returns c =
    λ h. flags _ _ c.earlier.ensures c.get.ensures (c.field_told-settable.ensures h) c.get-2.ensures (c.field_told-retained.ensures h)

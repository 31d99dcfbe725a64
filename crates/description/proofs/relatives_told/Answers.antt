use Rattle.description.proofs.Whole.{relatives-told}
use Rattle.description.proofs.relatives_told.Goals as goal

pub returns : goal.returns
returns c =
    λ h. relatives-told _ _ _ c.get-root.ensures c.get-parent.ensures (c.root_told.ensures h) (c.parent_told.ensures h) c.earlier.ensures

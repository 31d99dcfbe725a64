use mathlib.Core.Path.{refl}
use Rattle.properties.proofs.Insertion.{view_empty}
use Rattle.properties.proofs.empty.Goals as goal

pub returns : goal.returns
returns c = ((λ s. view_empty s _ refl), refl)

use mathlib.Core.Path.{refl}
use mathlib.Core.List.{[], ◌∷◌}
use Rattle.device.specs.Decode.{is_set}
use Rattle.patch.proofs.Changes.{none-makes}
use Rattle.patch.proofs.no_description.Goals as goal

pub returns : goal.returns
unfolding is_set
returns c = none-makes (0 ∷ []) refl refl

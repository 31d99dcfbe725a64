-- What this crate promises beyond its contract.
use Rattle.std.specs.Prelude.{Some}
use Prim.Native.Nat.{ℕ}
use mathlib.Core.Path.{◌≡◌, ◌∙◌}
use mathlib.Core.List.{List}
use lib.ListN.{drop}
use Rattle.answer.specs.Answer.{gives}
use Rattle.description.specs.declared.Description.{Description}
use Rattle.description.specs.Description.{Described, describe}
use Rattle.description.specs.Meaning.{meaning}
use Rattle.description.proofs.Theorems.{declares}
use Rattle.rules.specs.Table.{new_description}
use Rattle.rules.specs.Messages.{with_description}
use Rattle.device.specs.Layout.{described_at}
use Rattle.patch.specs.Makes.{Makes}
use Rattle.imprint.specs.Fits.{FitsRoom}
use Rattle.imprint.specs.Contract.{Imprinted}
use Rattle.imprint.proofs.Valid.{declared-fits}

-- Every valid description fits.
pub fits : (own s : List ℕ) (x : Described) → describe own s ≡ gives x → FitsRoom x
fits own s x e = declared-fits own x (declares own s x e)

-- So what was read of a valid description, imprinted, makes it the device's.
pub makes : (own s image : List ℕ) (d : Description) (x : Described) → meaning s d ≡ describe own s → describe own s ≡ gives x → Imprinted s d image → Makes described_at (drop described_at image) (with_description (Some (new_description x)))
makes own s image d x p e i = i x (p ∙ e) (fits own s x e)

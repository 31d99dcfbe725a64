-- What the image of a room promises.
use Rattle.std.specs.Prelude.{ℕ, ◌≡◌, List, drop, Some}
use Rattle.answer.specs.Answer.{gives}
use Rattle.description.specs.declared.Description.{Description}
use Rattle.description.specs.Description.{Described}
use Rattle.description.specs.Meaning.{meaning}
use Rattle.rules.specs.Table.{new_description}
use Rattle.rules.specs.Messages.{with_description}
use Rattle.device.specs.Layout.{described_at}
use Rattle.patch.specs.Makes.{Makes}
use Rattle.imprint.specs.Fits.{FitsRoom}

-- "description: replaces what the device has; all lanes become empty.": the image's bytes from the description on, put into a room, make it so.
-- Free: the bytes before them; all of the image of a description that is not taken, or that does not fit (every valid one fits: proofs/Theorems);
-- and what means nothing in a room (bytes behind a length, between head and records, behind the last record and behind each one's lanes)
abbrev pub Imprinted : List ℕ → Description → List ℕ → Type 0
Imprinted s d image = (x : Described) → meaning s d ≡ gives x → FitsRoom x → Makes described_at (drop described_at image) (with_description (Some (new_description x)))

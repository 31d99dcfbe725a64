-- What this crate promises beyond its contract: an image that makes a description makes afterwards the one that the rules make of it.
use Rattle.std.specs.Prelude.{Option, Some}
use Prim.Native.Nat.{ℕ, ◌+◌}
use native.Mathlib.Omega.{arith}
use mathlib.Core.Path.{◌≡◌, sym, ap, ◌∙◌}
use mathlib.Core.List.{List, ◌++◌, append-nil}
use lib.ListN.{length, take, drop, length-drop, drop_of_length-le, take-append-drop}
use Rattle.little_endian.specs.Bytes.{put}
use Rattle.memory.specs.Layout.{room_size}
use Rattle.description.specs.Description.{Described}
use Rattle.rules.specs.Table.{Description, Device, properties_of, new_description}
use Rattle.rules.specs.Handover.{republished}
use Rattle.rules.specs.Messages.{with_description}
use Rattle.device.specs.Layout.{described_at}
use Rattle.device.specs.Decode.{device_of}
use Rattle.patch.specs.Makes.{Makes}
use Rattle.imprint.proofs.Whole.{image-makes}
use Rattle.handover.specs.Contract.{HandedOver}

-- an image put over itself
own_image : (image : List ℕ) → length image ≡ room_size → put image described_at (drop described_at image) ≡ image
unfolding put
own_image image l =
    ap (λ (t : List ℕ). take described_at image ++ (drop described_at image ++ t)) (drop_of_length-le image {i = described_at + length (drop described_at image)} (omega (arith, length-drop described_at image)))
    ∙ ap (λ (t : List ℕ). take described_at image ++ t) (append-nil (drop described_at image))
    ∙ take-append-drop described_at image

module _ (image : List ℕ) (l : length image ≡ room_size) where
  pub described_by_lem : (y : Option Description) → Makes described_at (drop described_at image) (with_description y) → (device_of image).description ≡ y
  described_by_lem y k = ap (λ (r : List ℕ). (device_of r).description) (sym (own_image image l)) ∙ ap (λ (v : Device). v.description) (k.makes image l)

  pub makes : (old image' : List ℕ) → HandedOver image old image' → (x : Described) → Makes described_at (drop described_at image) (with_description (Some (new_description x)))
      → Makes described_at (drop described_at image') (with_description (Some (republished (properties_of (device_of old).description) x)))
  unfolding device_of
  makes old image' h x k = image-makes image' (republished (properties_of (device_of old).description) x) (h.long ∙ l) (h.means x (described_by_lem (Some (new_description x)) k))

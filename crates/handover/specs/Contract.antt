-- What an image takes over from a device's room (paper 02, K2).
use Rattle.std.specs.Prelude.{ℕ, ◌≡◌, List, length, Some}
use Rattle.description.specs.Description.{Described}
use Rattle.rules.specs.Table.{properties_of, new_description}
use Rattle.rules.specs.Handover.{republished}
use Rattle.device.specs.Decode.{device_of}

-- an image of a description with empty lanes has afterwards those that the old room hands on. Free: what any other image becomes, and in this one the bytes
-- that mean nothing
pub record HandedOver (image old image' : List ℕ) : Type 0 where
  pub long : length image' ≡ length image
  pub means : (x : Described) → (device_of image).description ≡ Some (new_description x) → (device_of image').description ≡ Some (republished (properties_of (device_of old).description) x)

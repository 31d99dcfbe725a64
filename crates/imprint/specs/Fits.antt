-- What a device's room has space for. Every valid description fits.
use Rattle.std.specs.Prelude.{ℕ, ◌≤◌, List, [], ◌∷◌, length, Option, None, Some}
use Rattle.properties.specs.Property.{Property}
use Rattle.description.specs.Description.{Described}
use Rattle.text.specs.Ids.{id_most}
use Rattle.device.specs.Layout.{format_most, properties_most}

-- "An ID is 1 to 32 bytes"
pub record FitsId (t : List ℕ) : Type 0 where
  pub some : 1 ≤ length t
  pub short : length t ≤ id_most

-- "its root, parent .., or none"
abbrev pub FitsIdOrNone : Option (List ℕ) → Type 0
FitsIdOrNone None = Unit {0}
FitsIdOrNone (Some t) = FitsId t

-- "Formats, at most 64 bytes where kept"
pub record FitsProperty (p : Property) : Type 0 where
  pub node : length p.node ≤ id_most
  pub id : length p.id ≤ id_most
  pub format : length p.format ≤ format_most

abbrev pub FitEach : List Property → Type 0
FitEach [] = Unit {0}
FitEach (p ∷ ps) = FitsProperty p × FitEach ps

-- "At most 24 properties in all."
pub record FitsRoom (x : Described) : Type 0 where
  pub root : FitsIdOrNone x.root
  pub parent : FitsIdOrNone x.parent
  pub each : FitEach x.properties
  pub few : length x.properties ≤ properties_most

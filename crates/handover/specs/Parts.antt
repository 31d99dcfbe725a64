-- What the contracts of private functions cite. No promise rests on it.
use Rattle.std.specs.Prelude.{ℕ, ◌<◌, ◌≡◌, List, Bool, true, false, ◌&&◌, length, Option}
use Rattle.answer.specs.Answer.{Answer, refused, gives}
use Rattle.properties.specs.Property as declaration
use Rattle.memory.specs.Layout.{room_size}
use Rattle.rules.specs.declared.LaneKind.{LaneKind}
use Rattle.rules.specs.declared.LaneKind.TheVariants.{Value, Target}
use Rattle.rules.specs.Table.{Held, Property, with_lane, properties_of}
use Rattle.rules.specs.Find.{find_property, change_at, in_device}
use Rattle.rules.specs.Handover.{still_valid}
use Rattle.device.specs.declared.Lane.{Lane}
use Rattle.device.specs.declared.Property as shown
use Rattle.device.specs.Layout.{properties_most}
use Rattle.device.specs.Decode.{device_of}
use Rattle.device.specs.Meaning.{held_in, declared_in, property_in}

-- a lane that is kept goes over that of the property; else that one stays
unfoldable pub handed : LaneKind → Bool → Option Held → Property → Property
handed kind true h r = with_lane kind h r
handed kind false h r = r

-- what a property r, declared as d, takes over from q
unfoldable pub is_value_kept : declaration.Property → Property → Bool
is_value_kept d q = (q.declared.retained && d.retained) && still_valid d q.value

unfoldable pub takes : declaration.Property → Property → Property → Property
takes d q r = handed Target (still_valid d q.target) q.target (handed Value (is_value_kept d q) q.value r)

-- from what was found under its IDs
unfoldable pub inherits_from : Answer Property → Property → Property
inherits_from (refused n) r = r
inherits_from (gives q) r = takes r.declared q r

unfoldable pub inherits : (old : List Property) → Property → Property
inherits old r = inherits_from (find_property r.declared.node r.declared.id old) r

-- ---- in rooms

abbrev pub keeps_value : (image : List ℕ) → shown.Property → (old : List ℕ) → shown.Property → Bool
keeps_value image p old q = is_value_kept (declared_in image p.declared) (property_in old q)

-- a lane of the old room; its payload, if it is kept, is valid for some property
pub record LaneHanded (m : List ℕ) (i : ℕ) (kind : LaneKind) (kept : Bool) (old : List ℕ) (lane : Option Lane) (m' : List ℕ) : Type 0 where
  pub long : length m' ≡ length m
  pub means : length m ≡ room_size → i < properties_most → (d : declaration.Property) → (kept ≡ true → still_valid d (held_in old lane) ≡ true)
      → device_of m' ≡ in_device (change_at i (handed kind kept (held_in old lane))) (device_of m)

pub record LanesHanded (m : List ℕ) (i : ℕ) (p : shown.Property) (old : List ℕ) (q : shown.Property) (m' : List ℕ) : Type 0 where
  pub long : length m' ≡ length m
  pub means : length m ≡ room_size → i < properties_most → device_of m' ≡ in_device (change_at i (takes (declared_in m p.declared) (property_in old q))) (device_of m)

pub record PropertyHanded (m : List ℕ) (i : ℕ) (old : List ℕ) (m' : List ℕ) : Type 0 where
  pub long : length m' ≡ length m
  pub means : length m ≡ room_size → i < length (properties_of (device_of m).description)
      → device_of m' ≡ in_device (change_at i (inherits (properties_of (device_of old).description))) (device_of m)

-- What this crate promises beyond its contracts.
use Rattle.std.specs.Prelude.{None}
use Prim.Native.Nat.{ℕ, ◌+◌, ◌≤◌, ◌<◌}
use mathlib.Core.Path.{◌≡◌, refl}
use mathlib.Core.List.{List, [], ◌∷◌}
use lib.ListN.{length, get_or}
use Rattle.text.specs.Ascii.{ascii}
use Rattle.little_endian.specs.Bytes.{le, num}
use Rattle.text.specs.Places.{bytes_at, Within}
use Rattle.text.specs.declared.Place.{Place}
use Rattle.memory.specs.Bytes.{span}
use Rattle.rules.specs.Table.{Property, lane_of, properties_of}
use Rattle.rules.specs.States.{state_at}
use Rattle.rules.specs.declared.DeviceState.TheVariants.{Init}
use Rattle.rules.specs.declared.LaneKind.{LaneKind}
use Rattle.device.specs.declared.Property as shown
use Rattle.device.specs.Layout.{properties_most, record_at}
use Rattle.device.specs.Decode.{is_set, text_at, record_of, description_in, device_of}
use Rattle.device.specs.Meaning.{chosen, held_in, property_in, shifted}
use Rattle.device.proofs.Texts as texts
use Rattle.device.proofs.Described as described
use Rattle.device.proofs.Lanes as lanes

-- "At most 24 properties in all": whatever the room's bytes
pub at_most : (room : List ℕ) → length (properties_of (device_of room).description) ≤ properties_most
at_most = described.at_most

-- the i-th property is the record at its place
pub nth : (room : List ℕ) (i : ℕ) (z : Property) → i < length (properties_of (device_of room).description) → get_or (properties_of (device_of room).description) i z ≡ record_of room (record_at i)
nth = described.nth

-- the lane that is chosen by its number holds what that lane of the property holds
pub lane-holds : (room : List ℕ) (kind : LaneKind) (p : shown.Property) → held_in room (chosen kind p) ≡ lane_of kind (property_in room p)
lane-holds = lanes.lane-holds

-- a byte string of a room that is a part of memory, shown in that memory
pub text_in-memory : (m : List ℕ) (a n : ℕ) (p : Place) → a + n ≤ length m → Within n p → bytes_at (span m a n) p ≡ bytes_at m (shifted a p)
text_in-memory = texts.text_in-memory

-- a room of five bytes, and one of none
pub lamp : device_of (4 ∷ ascii "lamp") ≡ record { id = ascii "lamp"; state = Init; time = 0; description = None }
unfolding device_of text_at span state_at description_in is_set num le
lamp = refl

pub empty : device_of [] ≡ record { id = []; state = Init; time = 0; description = None }
unfolding device_of text_at span state_at description_in is_set num le
empty = refl

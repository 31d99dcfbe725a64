-- What the answers about a room say. Byte strings are shown as places in the room; what counts is their content.
use Rattle.std.specs.Prelude.{ℕ, ◌+◌, ◌^◌, ◌≡◌, List, length, get_or, ℤ, Option, None, Some}
use Rattle.numbers.specs.Whole.{stands}
use Rattle.text.specs.Places.{bytes_at, Within}
use Rattle.text.specs.declared.Place.{Place}
use Rattle.properties.specs.Property as declaration
use Rattle.rules.specs.Table as table
use Rattle.rules.specs.declared.LaneKind.{LaneKind}
use Rattle.rules.specs.declared.LaneKind.TheVariants.{Value, Target, Asked}
use Rattle.device.specs.declared.Lane.{Lane}
use Rattle.device.specs.declared.Declared.{Declared}
use Rattle.device.specs.declared.Property.{Property}

-- a place in the room that holds these bytes
pub record TextIn (room : List ℕ) (t : List ℕ) (p : Place) : Type 0 where
  pub says : bytes_at room p ≡ t
  pub within : Within (length room) p

-- "its root, parent (as sent) .., or none"
unfoldable pub text_in : List ℕ → Option Place → Option (List ℕ)
text_in room None = None
text_in room (Some p) = Some (bytes_at room p)

abbrev pub Inside : ℕ → Option Place → Type 0
Inside n None = Unit
Inside n (Some p) = Within n p

pub record OptionalIn (room : List ℕ) (t : Option (List ℕ)) (x : Option Place) : Type 0 where
  pub says : text_in room x ≡ t
  pub within : Inside (length room) x

-- "and version (its number), or none": the answer's number is 2^63 more
unfoldable pub version_is : Option ℕ → Option ℤ
version_is None = None
version_is (Some n) = Some (stands (2 ^ 63) n)

-- "A property has three lanes: value, target, asked", by number
unfoldable pub lane_number : LaneKind → ℕ
lane_number Value = 0
lane_number Target = 1
lane_number Asked = 2

-- of a lane past the third there is none
unfoldable pub chosen : LaneKind → Property → Option Lane
chosen kind p = get_or p.lanes (lane_number kind) None

-- "each is empty or holds a payload with its time"
unfoldable pub held_in : List ℕ → Option Lane → Option table.Held
held_in room None = None
held_in room (Some v) = Some (record { time = v.time; payload = bytes_at room v.payload })

-- the payload of a filled lane lies in a room, or a memory, of that length
abbrev pub LaneInside : ℕ → Option Lane → Type 0
LaneInside n None = Unit
LaneInside n (Some v) = Within n v.payload

-- a lane of a room: what it holds, and that its payload lies in the room
pub record LaneIn (room : List ℕ) (h : Option table.Held) (v : Option Lane) : Type 0 where
  pub says : held_in room v ≡ h
  pub within : LaneInside (length room) v

-- "with its datatype, kept format and two flags"
unfoldable pub declared_in : List ℕ → Declared → declaration.Property
declared_in room d = record {
  node = bytes_at room d.node;
  id = bytes_at room d.id;
  datatype = d.datatype;
  format = bytes_at room d.format;
  settable = d.settable;
  retained = d.retained;
}

unfoldable pub property_in : List ℕ → Property → table.Property
property_in room p = record {
  declared = declared_in room p.declared;
  value = held_in room (chosen Value p);
  target = held_in room (chosen Target p);
  asked = held_in room (chosen Asked p);
}

-- every place of what is declared lies in a room, or a memory, of that length
pub record DeclaredInside (n : ℕ) (d : Declared) : Type 0 where
  pub node : Within n d.node
  pub id : Within n d.id
  pub format : Within n d.format

-- every place of a property and of its filled lanes lies in a room of that length
pub record Places (n : ℕ) (p : Property) : Type 0 where
  pub declared : DeclaredInside n p.declared
  pub lanes : (kind : LaneKind) → LaneInside n (chosen kind p)

pub record PropertyIn (room : List ℕ) (x : table.Property) (p : Property) : Type 0 where
  pub says : property_in room p ≡ x
  pub within : Places (length room) p

-- a place of a room that starts at a in memory, as a place of that memory
abbrev pub shifted : ℕ → Place → Place
shifted a p = record { start = a + p.start; end = a + p.end }

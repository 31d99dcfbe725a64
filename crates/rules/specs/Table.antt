-- Paper 01, "The table": what a table holds.
use Rattle.std.specs.Prelude.{ℕ, List, [], ◌∷◌, ℤ, Option, None, Some}
use Rattle.properties.specs.Property as declaration
use Rattle.description.specs.Description.{Described}
use Rattle.rules.specs.declared.DeviceState.{DeviceState}
use Rattle.rules.specs.declared.LaneKind.{LaneKind}
use Rattle.rules.specs.declared.LaneKind.TheVariants.{Value, Target, Asked}

-- "each is empty or holds a payload with its time"
pub record Held : Type 0 where
  pub time : ℕ
  pub payload : List ℕ

-- "A property has three lanes: value, target, asked"
pub record Property : Type 0 where
  pub declared : declaration.Property
  pub value : Option Held
  pub target : Option Held
  pub asked : Option Held

unfoldable pub lane_of : LaneKind → Property → Option Held
lane_of Value p = p.value
lane_of Target p = p.target
lane_of Asked p = p.asked

-- a lane filled, or emptied
unfoldable pub with_lane : LaneKind → Option Held → Property → Property
with_lane Value h p = record { declared = p.declared; value = h; target = p.target; asked = p.asked }
with_lane Target h p = record { declared = p.declared; value = p.value; target = h; asked = p.asked }
with_lane Asked h p = record { declared = p.declared; value = p.value; target = p.target; asked = h }

-- "from its description: root, parent, version, properties"
pub record Description : Type 0 where
  pub root : Option (List ℕ)
  pub parent : Option (List ℕ)
  pub version : ℤ
  pub properties : List Property

-- "A device has ID, state (..) with its time, and from its description: .."
pub record Device : Type 0 where
  pub id : List ℕ
  pub state : DeviceState
  pub time : ℕ
  pub description : Option Description

-- "last time (or none)"
pub record Table : Type 0 where
  pub devices : List Device
  pub last : Option ℕ

-- "from no devices and no last time"
abbrev pub no_devices : Table
no_devices = record { devices = []; last = None }

-- what a device without a description has of one
unfoldable pub root_of : Option Description → Option (List ℕ)
root_of None = None
root_of (Some x) = x.root

unfoldable pub parent_of : Option Description → Option (List ℕ)
parent_of None = None
parent_of (Some x) = x.parent

unfoldable pub version_of : Option Description → Option ℤ
version_of None = None
version_of (Some x) = Some x.version

unfoldable pub properties_of : Option Description → List Property
properties_of None = []
properties_of (Some x) = x.properties

-- a description as its text says, before anything is handed on to it (Handover): all lanes are empty
unfoldable pub empty_lanes : List declaration.Property → List Property
empty_lanes [] = []
empty_lanes (p ∷ ps) = record { declared = p; value = None; target = None; asked = None } ∷ empty_lanes ps

unfoldable pub new_description : Described → Description
new_description x = record { root = x.root; parent = x.parent; version = x.version; properties = empty_lanes x.properties }

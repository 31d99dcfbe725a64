-- What the contracts of private functions cite. No promise rests on it.
use Rattle.std.specs.Prelude.{ℕ, ◌+◌, ◌≤◌, ◌≡◌, List, length, Option, Result, Ok, Err}
use Rattle.answer.specs.Answer.{Answer, refused, gives, and_then, only}
use Rattle.memory.specs.Bytes.{span}
use Rattle.memory.specs.Layout.{room_size}
use Rattle.rules.specs.declared.LaneKind.{LaneKind}
use Rattle.rules.specs.Table.{Device, properties_of, lane_of}
use Rattle.rules.specs.Find.{find, find_property}
use Rattle.rules.specs.Questions.{Value, an_id, two_states, a_text, a_property, a_lane, at, effective}
use Rattle.device.specs.Decode.{device_of}
use Rattle.lookup.specs.Meaning.{Sound, devices_in}
use Rattle.answer.specs.Refused.{refusal_of}
use Rattle.answer.specs.declared.Refused.{Refused}
use Rattle.text.specs.declared.Place.{Place}
use Rattle.device.specs.declared.Declared.{Declared}
use Rattle.device.specs.declared.Lane.{Lane}
use Rattle.questions.specs.Meaning.{says_id, says_relative, says_property, says_held, IdInside, RelativeInside, PropertyInside, HeldInside}

-- an answer that is 6 for unsound memory, and else this one
pub record Says (m : List ℕ) (should a : Answer Value) : Type 0 where
  pub unsound : (Sound m → ⊥) → a ≡ refused (only 6)
  pub answered : Sound m → a ≡ should

-- the room that starts there, and the device in it
abbrev pub room_from : List ℕ → ℕ → List ℕ
room_from m start = span m start room_size

abbrev pub device_from : List ℕ → ℕ → Device
device_from m start = device_of (room_from m start)

-- a room of sound memory that starts there and holds this device
pub record RoomOf (m : List ℕ) (start : ℕ) (v : Answer Device) : Type 0 where
  pub sound : Sound m
  pub inside : start + room_size ≤ length m
  pub holds : v ≡ gives (device_from m start)

-- a device sought by its ID: the refusal of every question about it, or its room
abbrev pub Seeks : List ℕ → List ℕ → Result ℕ Refused → Type 0
Seeks m id (Err r) = (f : Device → Answer Value) → Says m (and_then (find id (devices_in m)) f) (refused (refusal_of r))
Seeks m id (Ok start) = RoomOf m start (find id (devices_in m))

-- an answer that says what it should, and whose places are where they should be
pub record Shown (a should : Answer Value) (Inside : Type 0) : Type 0 where
  pub says : a ≡ should
  pub places : Inside

-- what is told of a device's states
abbrev pub states_of : List Device → Device → Answer Value
states_of ds v = gives (two_states v.state (effective ds v) v.time)

-- what is shown of the device in a room: its ID, a text, its i-th property, a lane of a property
abbrev pub ShowsId : (m : List ℕ) → (start : ℕ) → Place → Type 0
ShowsId m start r = Shown (says_id m (Ok r)) (gives (an_id (device_from m start).id)) (IdInside (length m) (Ok r))

abbrev pub ShowsRelative : (m : List ℕ) → Option (List ℕ) → Option Place → Type 0
ShowsRelative m t r = Shown (says_relative m (Ok r)) (gives (a_text t)) (RelativeInside (length m) (Ok r))

abbrev pub ShowsProperty : (m : List ℕ) → (start i : ℕ) → Result Declared Refused → Type 0
ShowsProperty m start i r = Shown (says_property m r) (and_then (at i (properties_of (device_from m start).description)) (λ p. gives (a_property p.declared))) (PropertyInside (length m) r)

abbrev pub ShowsLane : (m : List ℕ) → (start : ℕ) → (node property : List ℕ) → LaneKind → Result (Option Lane) Refused → Type 0
ShowsLane m start node property kind r =
    Shown (says_held m r) (and_then (find_property node property (properties_of (device_from m start).description)) (λ q. gives (a_lane (lane_of kind q)))) (HeldInside (length m) r)

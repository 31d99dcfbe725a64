-- What the patches make, for the users of this crate: IDs and payloads that fit are kept whole, and each patch stays inside its room.
use Prim.Native.Nat.{ℕ, ◌+◌, ◌≤◌, ◌<◌}
use native.Mathlib.Omega.{arith}
use mathlib.Core.Path.{◌≡◌, refl, subst}
use mathlib.Core.List.{List}
use lib.ListN.{length, take}
use lib.Seq.{take_all}
use Rattle.memory.specs.Layout.{room_size}
use Rattle.rules.specs.declared.DeviceState.{DeviceState}
use Rattle.rules.specs.declared.LaneKind.{LaneKind}
use Rattle.rules.specs.Messages.{Message, new_device, held_by}
use Rattle.text.specs.Ids.{id_most}
use Rattle.device.specs.Layout.{id_at, properties_most, lane_at, lane_size, payload_most}
use Rattle.device.specs.Meaning.{lane_number}
use Rattle.patch.specs.Makes.{Makes, LaneMakes, held_since}
use Rattle.patch.proofs.Changes.{lanes-three}

-- "An ID is 1 to 32 bytes"
pub new_device_lem : (bytes id : List ℕ) (s : DeviceState) (time : ℕ) → length id ≤ id_most → Makes id_at bytes (λ _. new_device (take id_most id) s time) → Makes id_at bytes (λ _. new_device id s time)
new_device_lem bytes id s time h m = subst (λ (t : List ℕ). Makes id_at bytes (λ _. new_device t s time)) (take_all id_most id h) m

-- payloads of properties: "At most 48 bytes (ours)"
pub lane : (bytes payload : List ℕ) (time : ℕ) → length payload ≤ payload_most → LaneMakes bytes (held_since time (take payload_most payload)) → LaneMakes bytes (held_since time payload)
lane bytes payload time h m = subst (λ (t : List ℕ). LaneMakes bytes (held_since time t)) (take_all payload_most payload h) m

-- what the rules put into a lane
pub held_by_lem : (x : Message) → held_by x ≡ held_since x.time x.payload
unfolding held_by held_since
held_by_lem x = refl

pub lane_inside : (i : ℕ) (kind : LaneKind) → i < properties_most → lane_at i (lane_number kind) + lane_size ≤ room_size
lane_inside i kind h = omega (arith, lanes-three kind)

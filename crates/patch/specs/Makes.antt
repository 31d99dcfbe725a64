-- What bytes, put over those of a room, make of the device that the room means.
use Rattle.std.specs.Prelude.{ℕ, ◌+◌, ◌≤◌, ◌<◌, ◌≡◌, List, true, false, length, Option, None, Some}
use Rattle.little_endian.specs.Bytes.{put}
use Rattle.memory.specs.Layout.{room_size}
use Rattle.rules.specs.declared.LaneKind.{LaneKind}
use Rattle.rules.specs.Table.{Held, Device, with_lane}
use Rattle.rules.specs.Find.{change_at, in_device}
use Rattle.rules.specs.Messages.{is_empty}
use Rattle.device.specs.Layout.{properties_most, lane_at, lane_size}
use Rattle.device.specs.Decode.{device_of}
use Rattle.device.specs.Meaning.{lane_number}

-- these bytes at this offset change the device so, whatever room they are put in
pub record Makes (offset : ℕ) (bytes : List ℕ) (f : Device → Device) : Type 0 where
  pub makes : (room : List ℕ) → length room ≡ room_size → device_of (put room offset bytes) ≡ f (device_of room)

-- paper 01, "The table": "each is empty or holds a payload with its time"
unfoldable pub held_since : (time : ℕ) → (payload : List ℕ) → Option Held
held_since time payload = elim (is_empty payload) [ true ↦ None | false ↦ Some (record { time = time; payload = payload }) ]

-- these bytes, put over a lane of any kind of any property, make it hold this
pub record LaneMakes (bytes : List ℕ) (h : Option Held) : Type 0 where
  pub makes : (i : ℕ) (kind : LaneKind) → i < properties_most → Makes (lane_at i (lane_number kind)) bytes (in_device (change_at i (with_lane kind h)))

-- a lane of a room written over, where it lies inside; it makes the lane hold this
pub record LaneSet (m : List ℕ) (i : ℕ) (kind : LaneKind) (h : Option Held) (m' : List ℕ) : Type 0 where
  pub bytes : List ℕ
  pub size : length bytes ≡ lane_size
  pub makes : LaneMakes bytes h
  pub written : lane_at i (lane_number kind) + lane_size ≤ length m → m' ≡ put m (lane_at i (lane_number kind)) bytes
  pub kept : length m < lane_at i (lane_number kind) + lane_size → m' ≡ m

-- The devices of memory by rank, and the room of each.
use Prim.Native.Nat.{ℕ, ◌+◌, ◌≤◌, ◌<◌, min}
use native.Mathlib.Omega.{arith}
use mathlib.Core.Path.{◌≡◌, sym, ap, ◌∙◌}
use mathlib.Core.Bool.{Bool, true, false}
use mathlib.Core.List.{List, []}
use lib.ListN.{length, get_or, drop, length-take, length-drop, get_or-eq_default}
use lib.Seq.{get_or-take}
use Rattle.memory.specs.Bytes.{span}
use Rattle.memory.specs.Layout.{room_size, room_at, head_at, head_size, order_at, capacity, count, slot}
use Rattle.memory.specs.Sound.{Sound}
use Rattle.memory.specs.State.{order, room, current, state, room_of, number, devices}
use Rattle.memory.proofs.Flat.{get_or-span}
use Rattle.memory.proofs.Lists.{length-map, get_d_map}
use Rattle.memory.proofs.Theorems as memory
use Rattle.rules.specs.Table.{Device}
use Rattle.rules.specs.Find.{first_at}
use Rattle.text.specs.Ids.{id_most}
use Rattle.device.specs.Decode.{text_at, device_of}
use Rattle.lookup.specs.Meaning.{table_of, means}
use Rattle.lookup.proofs.Ids.{id_in-room}
use Rattle.lookup.proofs.Lists as search
use Rattle.lookup.proofs.Lists.{Passed}

-- ---- the order

pub slots_are : (m t : List ℕ) (d : ℕ) → d ≡ capacity m → t ≡ span m order_at d → length t ≡ length (order m)
unfolding order
slots_are m t d e f = rw (f, e)

pub slots-few : (m : List ℕ) → length (order m) ≤ capacity m
unfolding order span
slots-few m = omega (arith, length-take (capacity m) (drop order_at m))

pub slot-inside : (m : List ℕ) (i : ℕ) → i < length (order m) → order_at + i < length m
unfolding order span
slot-inside m i h = omega (arith, length-take (capacity m) (drop order_at m), length-drop order_at m)

rooms-length : (m : List ℕ) → length (state m).now.rooms ≡ length (order m)
unfolding state current
rooms-length m = length-map (room m) (order m)

-- ---- the rooms

pub room_is : (m : List ℕ) (i at : ℕ) → i < length (order m) → at ≡ room_at (slot m i) → span m at room_size ≡ room_of (state m).now i
unfolding state current room order
room_is m i at h e =
    ap (λ (a : ℕ). span m a room_size) e
    ∙ sym (get_d_map (room m) (order m) i 0 [] h ∙ ap (room m) (get_or-span m order_at (capacity m) i (omega (arith, slots-few m))))

pub id_is : (m : List ℕ) (i at : ℕ) → i < length (order m) → at ≡ room_at (slot m i) → text_at m at id_most ≡ (device_of (room_of (state m).now i)).id
id_is m i at h e = id_in-room m at ∙ ap (λ (t : List ℕ). (device_of t).id) (room_is m i at h e)

pub room-none : (m : List ℕ) (i : ℕ) → length (order m) ≤ i → [] ≡ room_of (state m).now i
room-none m i h = sym (get_or-eq_default (state m).now.rooms [] {n = i} (omega (arith, rooms-length m)))

-- ---- the devices

number_is : (m : List ℕ) → number (state m).now ≡ count m
unfolding state current
number_is m = get_or-span m head_at head_size 0 (omega arith)

devices-length : (m : List ℕ) → length (means m).now.devices ≡ min (count m) (length (order m))
unfolding means table_of
devices-length m = length-map device_of (devices (state m).now) ∙ length-take (number (state m).now) (state m).now.rooms ∙ rw (number_is m, rooms-length m)

pub all_slots : (m : List ℕ) (d n : ℕ) → d ≡ length (order m) → n ≡ count m → d < n → d ≡ length (means m).now.devices
all_slots m d n e f h = omega (arith, devices-length m)

pub all-counted : (m : List ℕ) (d n : ℕ) → d ≡ length (order m) → n ≡ count m → n ≤ d → n ≡ length (means m).now.devices
all-counted m d n e f h = omega (arith, devices-length m)

pub has-slot : (m : List ℕ) (n i : ℕ) → n ≡ length (means m).now.devices → i < n → i < length (order m)
has-slot m n i e h = omega (arith, devices-length m)

-- in sound memory every counted device has its slot
pub counted : (m : List ℕ) → Sound m → length (means m).now.devices ≡ number (state m).now
counted m s = omega (arith, devices-length m, number_is m, rooms-length m, memory.rooms-length m s, s.header)

pub device_at : (m : List ℕ) (i : ℕ) (z : Device) → i < length (means m).now.devices → get_or (means m).now.devices i z ≡ device_of (room_of (state m).now i)
unfolding means table_of
device_at m i z h =
    get_d_map device_of (devices (state m).now) i [] z (omega (arith, length-map device_of (devices (state m).now)))
    ∙ ap device_of (get_or-take (number (state m).now) (state m).now.rooms i [] (omega (arith, devices-length m, number_is m)))

-- ---- a search among their IDs: of n devices the first i did not pass, and the ID of the next is t

abbrev pub by_id : (List ℕ → Bool) → Device → Bool
by_id test v = test v.id

module _ (m : List ℕ) (test : List ℕ → Bool) (n i : ℕ) (e : n ≡ length (means m).now.devices) (p : Passed (by_id test) (means m).now.devices i) where
  module _ (t : List ℕ) (h : i < n) (named : t ≡ (device_of (room_of (state m).now i)).id) where
    next-id : (get_or (means m).now.devices i (device_of [])).id ≡ t
    next-id = ap (λ (v : Device). v.id) (device_at m i (device_of []) (omega arith)) ∙ sym named

    pub found : test t ≡ true → i ≡ first_at (by_id test) (means m).now.devices
    found b = search.found (by_id test) (means m).now.devices i (device_of []) p (omega arith) (ap test next-id ∙ b)

    pub passed : test t ≡ false → Passed (by_id test) (means m).now.devices (i + 1)
    passed b = search.passed-one (by_id test) (means m).now.devices i (device_of []) p (omega arith) (ap test next-id ∙ b)

  pub not_found : n ≤ i → n ≡ first_at (by_id test) (means m).now.devices
  not_found h = e ∙ search.passed-all (by_id test) (means m).now.devices i (device_of []) p (omega arith)

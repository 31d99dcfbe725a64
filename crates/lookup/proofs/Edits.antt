-- Changes of sound memory by rank: what is committed, that it can be, and what it makes of the table.
use Rattle.std.specs.Prelude.{Option, Some}
use Prim.Native.Nat.{ℕ, ◌+◌, ◌≤◌, ◌<◌}
use native.Mathlib.Omega.{arith}
use mathlib.Core.Path.{◌≡◌, refl, sym, ap, ap₂, ◌∙◌}
use mathlib.Core.List.{List, []}
use lib.ListN.{length, get_or, set}
use Rattle.little_endian.specs.Bytes.{put}
use Rattle.memory.specs.Bytes.{insert_at, remove_at}
use Rattle.memory.specs.Layout.{room_size, capacity}
use Rattle.memory.specs.State.{Change, state, change, room_of, number}
use Rattle.memory.proofs.Theorems as memory
use Rattle.journal.specs.Contract.{AbleTo, change_of}
use Rattle.rules.specs.Table.{Device}
use Rattle.rules.specs.Find.{change_at}
use Rattle.rules.proofs.Ranks.{change-set}
use Rattle.device.specs.Decode.{device_of}
use Rattle.lookup.specs.Meaning.{Sound, last_of, table_of, opening_of, means}
use Rattle.lookup.proofs.Ranks.{device_at, counted}
use Rattle.lookup.proofs.Changes as changes
use Rattle.lookup.proofs.Changes.{with}

-- bytes that make a device of every room
abbrev Makes : ℕ → List ℕ → (Device → Device) → Type 0
Makes offset bytes f = (room : List ℕ) → length room ≡ room_size → device_of (put room offset bytes) ≡ f (device_of room)

pub devices-most : (m : List ℕ) → (opening_of m).devices ≡ capacity m
unfolding opening_of
devices-most m = memory.capacity_is m

-- sound memory with n devices, and a head that says how many there are then and the last time
module _ (m : List ℕ) (s : Sound m) (n : ℕ) (e : n ≡ length (means m).now.devices) (head : List ℕ) (time : ℕ) (told : last_of head ≡ Some time) where
  numbered : number (state m).now ≡ n
  numbered = omega (arith, counted m s.memory)

  within : number (state m).now ≤ length (state m).now.rooms
  within = memory.number-inside m s.memory

  few : n ≤ capacity m
  few = omega (arith, numbered, within, memory.rooms-length m s.memory)

  finish : (c : Change) (a b : List Device) → c.head ≡ head → a ≡ b → with a (last_of c.head) ≡ with b (Some time)
  finish c a b h k = ap₂ (λ (l : List Device) (t : Option ℕ). with l t) k (ap last_of h ∙ told)

  -- the device of a rank gets bytes
  module _ (i offset : ℕ) (bytes : List ℕ) (inside : offset + length bytes ≤ room_size) (same : get_or head 0 0 ≡ n) (there : i < n) where
    pub patch-able : AbleTo m (change_of i i offset bytes head)
    patch-able = memory.able m i i (get_or head 0 0) offset (length bytes) s.memory (record { starts = omega (arith, few); ends = omega (arith, few); counted = omega (arith, few); inside = inside })

    pub patched : (f : Device → Device) → Makes offset bytes f → table_of (change (change_of i i offset bytes head) (state m).now) ≡ with (change_at i f (means m).now.devices) (Some time)
    unfolding means
    patched f makes =
        changes.patched (state m).now (change_of i i offset bytes head) within refl (same ∙ sym numbered) (omega (arith, numbered))
        ∙ finish (change_of i i offset bytes head) _ _ refl
        (ap (set (means m).now.devices i) (makes (room_of (state m).now i) (memory.room-length m s.memory i (omega (arith, few))) ∙ ap f (sym (device_at m i (device_of []) (omega arith)))) ∙ sym (change-set i f (means m).now.devices (device_of [])))

  -- a new device gets the first free room and a rank
  module _ (place : ℕ) (bytes : List ℕ) (inside : length bytes ≤ room_size) (more : get_or head 0 0 ≡ n + 1) (free : n < (opening_of m).devices) (ranked : place ≤ n) where
    pub create-able : AbleTo m (change_of n place 0 bytes head)
    create-able = memory.able m n place (get_or head 0 0) 0 (length bytes) s.memory (record { starts = omega (arith, devices-most m); ends = omega (arith, devices-most m); counted = omega (arith, devices-most m); inside = omega arith })

    pub created : (v : Device) → Makes 0 bytes (λ _. v) → table_of (change (change_of n place 0 bytes head) (state m).now) ≡ with (insert_at place v (means m).now.devices) (Some time)
    unfolding means
    created v makes =
        changes.created (state m).now (change_of n place 0 bytes head) within (sym numbered) (omega (arith, numbered)) (omega (arith, numbered)) (omega (arith, numbered, devices-most m, memory.rooms-length m s.memory))
        ∙ finish (change_of n place 0 bytes head) _ _ refl
        (ap (λ (w : Device). insert_at place w (means m).now.devices) (makes (room_of (state m).now n) (memory.room-length m s.memory n (omega (arith, devices-most m)))))

  -- the device of a rank goes, and its room is the first free one
  module _ (i k : ℕ) (less : get_or head 0 0 ≡ k) (one : n ≡ k + 1) (there : i < n) where
    pub remove-able : AbleTo m (change_of i k 0 [] head)
    remove-able = memory.able m i k (get_or head 0 0) 0 0 s.memory (record { starts = omega (arith, few); ends = omega (arith, few); counted = omega (arith, few); inside = omega arith })

    pub removed : table_of (change (change_of i k 0 [] head) (state m).now) ≡ with (remove_at i (means m).now.devices) (Some time)
    unfolding means
    removed =
        changes.removed (state m).now (change_of i k 0 [] head) within (sym less) (omega (arith, numbered)) (omega (arith, numbered))
        ∙ finish (change_of i k 0 [] head) _ _ refl refl

  -- only the last time is another
  module _ (same : get_or head 0 0 ≡ n) where
    pub time-able : AbleTo m (change_of 0 0 0 [] head)
    time-able = memory.able m 0 0 (get_or head 0 0) 0 0 s.memory (record { starts = omega (arith, s.memory.header); ends = omega (arith, s.memory.header); counted = omega (arith, few); inside = omega arith })

    pub timed : table_of (change (change_of 0 0 0 [] head) (state m).now) ≡ with (means m).now.devices (Some time)
    unfolding means
    timed =
        changes.untouched (state m).now (change_of 0 0 0 [] head) within refl (same ∙ sym numbered) refl (omega (arith, s.memory.header, memory.rooms-length m s.memory))
        ∙ finish (change_of 0 0 0 [] head) _ _ refl refl

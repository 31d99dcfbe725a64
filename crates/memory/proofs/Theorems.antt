-- What sound memory means, read off its bytes, for the users of this crate.
use Prim.Native.Nat.{ℕ, ◌+◌, ◌≤◌, ◌<◌}
use native.Mathlib.Omega.{arith}
use mathlib.Core.Path.{◌≡◌, refl, ap, ◌∙◌}
use mathlib.Core.List.{List}
use lib.ListN.{length, get_or}
use Rattle.memory.specs.Bytes.{span}
use Rattle.memory.specs.Layout.{room_size, room_at, head_at, head_size, domain_at, domain_length, capacity, depth, count, steps, slot}
use Rattle.memory.specs.Sound.{ChangeFits, Able, Sound}
use Rattle.memory.specs.State.{state, current, room, room_of, number}
use Rattle.memory.proofs.Flat.{get_or-span, length-span}
use Rattle.memory.proofs.Read as read

-- What is read of sound memory: the rooms by rank, the head, the number of devices, the domain.
module _ (m : List ℕ) (s : Sound m) where
  pub room-inside : (i : ℕ) → i < capacity m → room_at (slot m i) + room_size ≤ length m
  room-inside i h = omega (arith, s.header, s.permuted.slots i h)

  pub room_is : (i : ℕ) → i < capacity m → room_of (state m).now i ≡ span m (room_at (slot m i)) room_size
  unfolding state room
  room_is i h = read.room_is m s.header i h

  pub room-length : (i : ℕ) → i < capacity m → length (room_of (state m).now i) ≡ room_size
  room-length i h = ap length (room_is i h) ∙ length-span m (room_at (slot m i)) room_size (room-inside i h)

  pub room-byte : (i k : ℕ) → i < capacity m → k < room_size → get_or (room_of (state m).now i) k 0 ≡ get_or m (room_at (slot m i) + k) 0
  room-byte i k h q = ap (λ (r : List ℕ). get_or r k 0) (room_is i h) ∙ get_or-span m (room_at (slot m i)) room_size k q

  pub rooms-length : length (state m).now.rooms ≡ capacity m
  unfolding state
  rooms-length = read.length-rooms m s.header

  pub head_byte : (i : ℕ) → i < head_size → get_or (state m).now.head i 0 ≡ get_or m (head_at + i) 0
  unfolding state current
  head_byte i h = get_or-span m head_at head_size i h

  pub head-length : length (state m).now.head ≡ head_size
  unfolding state current
  head-length = length-span m head_at head_size (omega (arith, s.header))

  pub number_is : number (state m).now ≡ count m
  number_is = head_byte 0 (omega arith) ∙ ap (λ (i : ℕ). get_or m i 0) (omega arith)

  pub number-inside : number (state m).now ≤ length (state m).now.rooms
  number-inside = omega (arith, number_is, rooms-length, s.header)

  pub domain_is : (state m).domain ≡ span m domain_at (domain_length m)
  unfolding state
  domain_is = refl

  pub domain-inside : domain_at + domain_length m ≤ length m
  domain-inside = omega (arith, s.header)

pub capacity_is : (m : List ℕ) → (state m).capacity ≡ capacity m
unfolding state
capacity_is m = refl

pub depth_is : (m : List ℕ) → (state m).depth ≡ depth m
unfolding state
depth_is m = refl

-- The steps on offer are the states before.
pub steps_are : (m : List ℕ) → length (state m).past ≡ steps m
steps_are = read.length-past

-- Sound memory takes every change that fits.
pub able : (m : List ℕ) (from to n offset len : ℕ) → Sound m → ChangeFits (capacity m) from to n offset len → Able m from to n offset len
able m from to n offset len s f = record { header = s.header; fits = f; there = s.permuted.slots from f.starts }

-- What the crate promises beyond its contracts, for its users.
use Prim.Native.Nat.{ℕ, suc, ◌≤◌, ◌<◌}
use mathlib.Core.Path.{◌≡◌, refl, ap, ◌∙◌}
use mathlib.Core.Bool.{Bool, true}
use mathlib.Core.List.{List, [], ◌∷◌}
use lib.ListN.{length, set, take}
use Rattle.little_endian.specs.Bytes.{put}
use Rattle.memory.specs.Bytes.{insert_at, remove_at}
use Rattle.memory.specs.Layout.{depth}
use Rattle.memory.specs.Sound.{Sound}
use Rattle.memory.specs.State.{Now, Change, State, state, room_of, number, devices, change, inverse, made, undone}
use Rattle.journal.specs.Contract.{Right, Committed, Undone}
use Rattle.journal.proofs.Change as laws
use Rattle.journal.proofs.Devices as dev

-- A change undone gives the state before it, to the byte.
pub exact : (s : Now) (c : Change) → Right s c → change (inverse c s) (change c s) ≡ s
exact = laws.exact

-- A change and a step back: the state is as it was, and so are the steps on offer, but for one that gave way.
back : (j : ℕ) (s : State) (c : Change) → s.depth ≡ suc j → undone (made c s) ≡ record { domain = s.domain; capacity = s.capacity; depth = s.depth; now = s.now; past = take j s.past }
back j s c e = ap (λ (n : ℕ). undone (record { domain = s.domain; capacity = s.capacity; depth = s.depth; now = change c s.now; past = take n (s.now ∷ s.past) })) e

pub there_and_back : (m m₁ m₂ : List ℕ) (c : Change) (r : Bool) (j : ℕ) → Sound m → depth m ≡ suc j → Committed m c m₁ true → Undone m₁ m₂ r
    → state m₂ ≡ record { domain = (state m).domain; capacity = (state m).capacity; depth = (state m).depth; now = (state m).now; past = take j (state m).past }
unfolding state
there_and_back m m₁ m₂ c r j s e x y = y.changed (x.sound s) ∙ ap undone (x.changed s refl) ∙ back j (state m) c e

-- The devices after each kind of change: a patch, a creation, a removal, a mere new head.
pub patched : (s : Now) (c : Change) → number s ≤ length s.rooms → c.to ≡ c.from → number (change c s) ≡ number s → c.from < number s
    → devices (change c s) ≡ set (devices s) c.from (put (room_of s c.from) c.offset c.bytes)
patched = dev.patched

pub created : (s : Now) (c : Change) → number s ≤ length s.rooms → c.from ≡ number s → number (change c s) ≡ suc (number s) → c.to ≤ number s → number s < length s.rooms
    → devices (change c s) ≡ insert_at c.to (put (room_of s c.from) c.offset c.bytes) (devices s)
created = dev.created

pub removed : (s : Now) (c : Change) → number s ≤ length s.rooms → c.to ≡ number (change c s) → number s ≡ suc (number (change c s)) → c.from < number s
    → devices (change c s) ≡ remove_at c.from (devices s)
removed = dev.removed

pub untouched : (s : Now) (c : Change) → number s ≤ length s.rooms → c.to ≡ c.from → number (change c s) ≡ number s → c.bytes ≡ [] → c.from < length s.rooms
    → devices (change c s) ≡ devices s
untouched = dev.untouched

-- A whole room put over a room is that room.
pub put_whole : (r bs : List ℕ) → length bs ≡ length r → put r 0 bs ≡ bs
put_whole = dev.put_whole

-- What memory decodes to, piece by piece.
use Prim.Native.Nat.{ℕ, suc, ◌<◌}
use native.Mathlib.Omega.{arith}
use mathlib.Core.Path.{◌≡◌, refl, ap, ◌∙◌}
use mathlib.Core.List.{List, [], ◌∷◌}
use lib.ListN.{length, get_or}
use Rattle.memory.specs.Layout.{room_size, room_at, order_at, capacity, depth, next, steps, slot}
use Rattle.memory.specs.Sound.{Header, EntryFits}
use Rattle.memory.specs.State.{Now, Change, change, order, room, current, room_of, entry, entries, place, pasts, state}
use Rattle.memory.proofs.Lists.{length-map, get_d_map, length-tab}
use Rattle.memory.proofs.Flat.{length-span, get_or-span}

-- the state, byte by byte
module _ (m : List ℕ) (h : Header m) where
  -- every entry reads as a change that the rooms can take
  pub fitting : (p : ℕ) → EntryFits m p
  fitting p = omega (arith, h)

  pub length-order : length (order m) ≡ capacity m
  unfolding order
  length-order = length-span m order_at (capacity m) (omega (arith, h))

  pub order_is : (i : ℕ) → i < capacity m → get_or (order m) i 0 ≡ slot m i
  unfolding order
  order_is i l = get_or-span m order_at (capacity m) i l

  pub length-room : (k : ℕ) → k < capacity m → length (room m k) ≡ room_size
  unfolding room
  length-room k l = length-span m (room_at k) room_size (omega (arith, h))

  pub length-rooms : length (current m).rooms ≡ capacity m
  unfolding current
  length-rooms = length-map (room m) (order m) ∙ length-order

  pub room_is : (i : ℕ) → i < capacity m → room_of (current m) i ≡ room m (slot m i)
  unfolding current
  room_is i l = get_d_map (room m) (order m) i 0 [] (omega (arith, length-order)) ∙ ap (room m) (order_is i l)

length-pasts : (s : Now) (es : List Change) → length (pasts s es) ≡ length es
unfolding pasts
length-pasts s [] = refl
length-pasts s (e ∷ es) = ap suc (length-pasts (change e s) es)

pub length-past : (m : List ℕ) → length (state m).past ≡ steps m
unfolding state entries
length-past m = length-pasts (current m) (entries m) ∙ length-tab (steps m) (λ i. entry m (place (next m) (depth m) i))

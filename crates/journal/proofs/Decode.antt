-- What memory decodes to, after bytes changed: the rooms, an entry, the entries.
use Prim.Native.Nat.{ℕ, suc, ◌+◌, ◌-◌, ◌≤◌, ◌<◌, min}
use native.Mathlib.Omega.{arith}
use mathlib.Core.Path.{◌≡◌, sym, ap, ap₂, ◌∙◌}
use mathlib.Core.List.{List, ◌∷◌, map}
use lib.ListN.{length, get_or, set, take}
use Rattle.little_endian.specs.Bytes.{u16}
use Rattle.memory.specs.Bytes.{tab, span}
use Rattle.memory.specs.Layout.{room_size, room_at, image_at, entry_at, head_at, head_size, order_at, capacity, depth, next, steps, size, slot, offset_of, length_of, head_of}
use Rattle.memory.specs.Sound.{Header, Sound}
use Rattle.memory.specs.State.{Change, order, room, current, entry, entries, place}
use Rattle.journal.specs.Parts.{turn}
use Rattle.memory.proofs.Lists.{map_same, tab_ext, tab-cons, tab_pushed}
use Rattle.memory.proofs.Read.{length-order, order_is}
use Rattle.memory.proofs.Flat.{Same, span-kept, num-kept}
use Rattle.journal.proofs.Places.{place-below, place_here, place-next, place-apart, place-back}

-- an entry that is where it was
module _ (m m' : List ℕ) (h : Header m) (len : length m' ≡ length m) (d : capacity m' ≡ capacity m) where
  pub entry_kept : (p p' : ℕ) → p < depth m → p' ≡ p → Same m m' (entry_at p) (entry_at p + 32) → Same m m' (image_at (capacity m) p) (image_at (capacity m) p + room_size) → entry m' p' ≡ entry m p
  unfolding entry
  entry_kept p p' q e s t =
      ap (entry m') e ∙ (λ i. record {
        from = ap₂ (λ (x y : ℕ). min x (y - 1)) (s (entry_at p) (omega arith) (omega arith)) d i;
        to = ap₂ (λ (x y : ℕ). min x (y - 1)) (s (entry_at p + 1) (omega arith) (omega arith)) d i;
        offset = off i;
        bytes = (ap₂ (λ (x y : ℕ). span m' (image_at x p) y) d long ∙ span-kept m m' (image_at (capacity m) p) (length_of m p) len (omega (arith, h)) (λ k x y. t k x (omega arith))) i;
        head = ap₂ (λ (x : List ℕ) (y : ℕ). set x 0 y) (span-kept m m' (head_of p) head_size len (omega (arith, h)) (λ k x y. s k (omega arith) (omega arith)))
            (ap₂ min (s (head_of p) (omega arith) (omega arith)) d) i;
      })
    where
      number : (k : ℕ) → k + 2 ≤ 32 → u16 m' (entry_at p + k) ≡ u16 m (entry_at p + k)
      number k l = num-kept m m' (entry_at p + k) 2 len (omega (arith, h)) (λ i x y. s i (omega arith) (omega arith))

      off : offset_of m' p ≡ offset_of m p
      off = ap (λ (x : ℕ). min x room_size) (number 2 (omega arith))

      long : length_of m' p ≡ length_of m p
      long = ap₂ (λ (x y : ℕ). min x (room_size - y)) (number 4 (omega arith)) off

  -- the state, where its bytes are as they were
  pub current-kept : Same m m' head_at (order_at + capacity m) → Same m m' room_size (room_at (capacity m)) → ((i : ℕ) → i < capacity m → slot m i < capacity m) → current m' ≡ current m
  unfolding current order room
  current-kept s t below = λ i. record {
    head = span-kept m m' head_at head_size len (omega (arith, h)) (λ k x y. s k x (omega arith)) i;
    rooms = (ap (map (room m')) (ap (span m' order_at) d ∙ span-kept m m' order_at (capacity m) len (omega (arith, h)) (λ k x y. s k (omega arith) y))
        ∙ map_same (room m) (room m') (order m) 0 (λ k l. room-kept k (omega (arith, length-order m h)))) i;
  }
    where
      room-kept : (k : ℕ) → k < capacity m → room m' (get_or (order m) k 0) ≡ room m (get_or (order m) k 0)
      room-kept k l =
          let b : get_or (order m) k 0 < capacity m = omega (arith, order_is m h k l, below k l) in
          span-kept m m' (room_at (get_or (order m) k 0)) room_size len (omega (arith, h)) (λ i x y. t i (omega arith) (omega arith))

-- the entries of the ring
module _ (m m' : List ℕ) (len : length m' ≡ length m) (d : capacity m' ≡ capacity m) (j : depth m' ≡ depth m) (ok : Sound m) where
  H : Header m
  H = ok.header

  at_same : (h h' i i' : ℕ) → place h' (depth m) i' ≡ place h (depth m) i → place h' (depth m') i' ≡ place h (depth m) i
  at_same h h' i i' e = rw j e

  G : ℕ → Change
  G i = entry m (place (next m) (depth m) i)

  G' : ℕ → Change
  G' i = entry m' (place (next m') (depth m') i)

  Kept : ℕ → Type 0
  Kept p = Same m m' (entry_at p) (entry_at p + 32) × Same m m' (image_at (capacity m) p) (image_at (capacity m) p + room_size)

  kept_at : (p p' : ℕ) → p < depth m → p' ≡ p → Kept p → entry m' p' ≡ entry m p
  unfolding Kept H
  kept_at p p' q e k = entry_kept m m' H len d p p' q e k.0 k.1

  pub entries-kept : next m' ≡ next m → steps m' ≡ steps m → Same m m' 128 room_size → Same m m' (room_at (capacity m)) (size m) → entries m' ≡ entries m
  unfolding entries G G' H Kept
  entries-kept h n o t =
      ap (λ (x : ℕ). tab x G') n
      ∙ tab_ext (steps m) G' G
      (λ i l.
      let q : place (next m) (depth m) i < depth m = place-below (next m) (depth m) i (omega (arith, H)) (omega (arith, H)) in
      kept_at (place (next m) (depth m) i) (place (next m') (depth m') i) q
      (at_same (next m) (next m') i i (ap (λ (x : ℕ). place x (depth m) i) h)) ((λ x a b. o x (omega arith) (omega (arith, H))), (λ x a b. t x (omega arith) (omega arith))))

  -- one more entry was saved, at the place that was next
  pub entries_pushed : (e : Change) → 0 < depth m → next m' ≡ turn (next m) (depth m) → steps m' ≡ min (depth m) (suc (steps m)) → entry m' (next m) ≡ e
      → ((p : ℕ) → p < depth m → (p ≡ next m → ⊥) → Same m m' (entry_at p) (entry_at p + 32) × Same m m' (image_at (capacity m) p) (image_at (capacity m) p + room_size))
      → entries m' ≡ take (depth m) (e ∷ entries m)
  unfolding entries G G' H Kept
  entries_pushed e l h n i o =
      let f : next m < depth m = omega (arith, H) in
      ap (λ (x : ℕ). tab x G') n
      ∙ tab_pushed (depth m) (steps m) e G' G
      (λ _. ap (entry m') (rw j (ap (λ (x : ℕ). place x (depth m) 0) h ∙ place_here (next m) (depth m) f)) ∙ i)
      (λ k a b.
      let w : place (next m) (depth m) k < depth m = place-below (next m) (depth m) k f (omega arith) in
      kept_at (place (next m) (depth m) k) (place (next m') (depth m') (suc k)) w
      (at_same (next m) (next m') k (suc k) (ap (λ (x : ℕ). place x (depth m) (suc k)) h ∙ place-next (next m) (depth m) k f a))
      (o (place (next m) (depth m) k) w (place-apart (next m) (depth m) k f a)))

  -- the last entry was taken off
  pub entries-popped : 0 < steps m → next m' ≡ place (next m) (depth m) 0 → steps m' ≡ steps m - 1 → Same m m' 128 room_size → Same m m' (room_at (capacity m)) (size m)
      → entries m ≡ entry m (place (next m) (depth m) 0) ∷ entries m'
  unfolding entries G G' H Kept
  entries-popped l h n o t =
      let e : steps m ≡ suc (steps m') = omega arith in
      let f : next m < depth m = omega (arith, H) in
      ap (λ (x : ℕ). tab x G) e
      ∙ tab-cons (steps m') G
      ∙ ap (λ (x : List Change). G 0 ∷ x)
      (tab_ext (steps m') (λ i. G (suc i)) G'
      (λ i k.
      let q : place (next m) (depth m) (suc i) < depth m = place-below (next m) (depth m) (suc i) f (omega (arith, H)) in
      sym (kept_at (place (next m) (depth m) (suc i)) (place (next m') (depth m') i) q
      (at_same (next m) (next m') (suc i) i (ap (λ (x : ℕ). place x (depth m) i) h ∙ place-back (next m) (depth m) i f (omega (arith, H))))
      ((λ x a b. o x (omega arith) (omega (arith, H))), (λ x a b. t x (omega arith) (omega arith))))))

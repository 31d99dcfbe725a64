-- The rooms of the devices after a change: one written, one more, one less, none touched.
use Prim.Native.Nat.{ℕ, zero, suc, ◌≤◌, ◌<◌, zero-le, suc-le-suc}
use native.Mathlib.Nat.{not-suc-le-zero, le_of_suc-le-suc, zero-add}
use native.Mathlib.Omega.{arith}
use mathlib.Core.Path.{◌≡◌, refl, sym, ap, ap₂, ◌∙◌}
use mathlib.Core.List.{List, [], ◌∷◌, ◌++◌}
use lib.ListN.{length, get_or, set, take, drop, length-set}
use lib.Seq.{take-set-lt, get_or-set_same, set-get_or, drop-length}
use Rattle.little_endian.specs.Bytes.{put}
use Rattle.little_endian.proofs.Put.{put-none}
use Rattle.memory.specs.Bytes.{remove_at, insert_at, move}
use Rattle.memory.specs.State.{Now, Change, room_of, change, number, devices}
use Rattle.memory.proofs.Lists.{insert_removed, remove-set}

module _ {A : Type 0} where
  move_same : (z : A) (a : ℕ) (l : List A) → a < length l → move z a a l ≡ l
  unfolding move
  move_same z a l h = insert_removed a z l h

  take-insert : (k n : ℕ) (y : A) (l : List A) → k ≤ n → take (suc n) (insert_at k y l) ≡ insert_at k y (take n l)
  unfolding insert_at
  take-insert zero n y l h = refl
  take-insert (suc k) zero y l h = absurd (not-suc-le-zero h)
  take-insert (suc k) (suc n) y [] h = refl
  take-insert (suc k) (suc n) y (x ∷ l) h = ap (λ (t : List A). x ∷ t) (take-insert k n y l (le_of_suc-le-suc h))

  take-insert_at : (n : ℕ) (y : A) (l : List A) → n ≤ length l → take n (insert_at n y l) ≡ take n l
  unfolding insert_at
  take-insert_at zero y l h = refl
  take-insert_at (suc n) y [] h = absurd (not-suc-le-zero h)
  take-insert_at (suc n) y (x ∷ l) h = ap (λ (t : List A). x ∷ t) (take-insert_at n y l (le_of_suc-le-suc h))

  take-remove_at : (n : ℕ) (l : List A) → take n (remove_at n l) ≡ take n l
  unfolding remove_at
  take-remove_at zero l = refl
  take-remove_at (suc n) [] = refl
  take-remove_at (suc n) (x ∷ l) = ap (λ (t : List A). x ∷ t) (take-remove_at n l)

  take-remove : (k n : ℕ) (l : List A) → k ≤ n → take n (remove_at k l) ≡ remove_at k (take (suc n) l)
  unfolding remove_at
  take-remove k zero [] h = refl
  take-remove k (suc n) [] h = refl
  take-remove zero n (x ∷ l) h = refl
  take-remove (suc k) zero (x ∷ l) h = absurd (not-suc-le-zero h)
  take-remove (suc k) (suc n) (x ∷ l) h = ap (λ (t : List A). x ∷ t) (take-remove k n l (le_of_suc-le-suc h))

  length-remove : (k : ℕ) (l : List A) → length l ≤ suc (length (remove_at k l))
  unfolding remove_at
  length-remove k [] = zero-le
  length-remove zero (x ∷ l) = omega arith
  length-remove (suc k) (x ∷ l) = suc-le-suc (length-remove k l)

-- a whole room put over a room
pub put_whole : (r bs : List ℕ) → length bs ≡ length r → put r 0 bs ≡ bs
unfolding put
put_whole r bs e = ap (λ (n : ℕ). bs ++ drop n r) (zero-add (length bs) ∙ e) ∙ ap (λ (t : List ℕ). bs ++ t) (drop-length r) ∙ append-nil bs
  where
    append-nil : (l : List ℕ) → l ++ [] ≡ l
    append-nil [] = refl
    append-nil (x ∷ l) = ap (λ (t : List ℕ). x ∷ t) (append-nil l)

module _ (s : Now) (c : Change) (inside : number s ≤ length s.rooms) where
  abbrev new : List ℕ
  new = put (room_of s c.from) c.offset c.bytes

  abbrev written : List (List ℕ)
  written = set s.rooms c.from new

  size : length written ≡ length s.rooms
  size = length-set s.rooms c.from new

  -- a patch: the r-th device gets the bytes
  pub patched : c.to ≡ c.from → number (change c s) ≡ number s → c.from < number s → devices (change c s) ≡ set (devices s) c.from new
  patched et en h =
      ap₂ (λ (n b : ℕ). take n (move [] c.from b written)) en et
      ∙ ap (take (number s)) (move_same [] c.from written (omega (arith, size)))
      ∙ take-set-lt (number s) s.rooms c.from new h

  -- a creation: the first free room gets the bytes and stands at the place
  pub created : c.from ≡ number s → number (change c s) ≡ suc (number s) → c.to ≤ number s → number s < length s.rooms → devices (change c s) ≡ insert_at c.to new (devices s)
  unfolding move
  created ef en h q =
      ap (λ (n : ℕ). take n (move [] c.from c.to written)) en
      ∙ take-insert c.to (number s) (get_or written c.from []) (remove_at c.from written) h
      ∙ ap₂ (λ (x : List ℕ) (l : List (List ℕ)). insert_at c.to x l) (get_or-set_same s.rooms c.from new [] (omega arith))
      (ap (take (number s)) (remove-set c.from new s.rooms) ∙ ap (λ (k : ℕ). take (number s) (remove_at k s.rooms)) ef ∙ take-remove_at (number s) s.rooms)

  -- a removal: the r-th device is gone, and its room is the first free one
  pub removed : c.to ≡ number (change c s) → number s ≡ suc (number (change c s)) → c.from < number s → devices (change c s) ≡ remove_at c.from (devices s)
  unfolding move
  removed et en h =
      ap (λ (b : ℕ). take (number (change c s)) (move [] c.from b written)) et
      ∙ take-insert_at (number (change c s)) (get_or written c.from []) (remove_at c.from written) (omega (arith, size, length-remove c.from written))
      ∙ ap (take (number (change c s))) (remove-set c.from new s.rooms)
      ∙ take-remove c.from (number (change c s)) s.rooms (omega arith)
      ∙ ap (λ (n : ℕ). remove_at c.from (take n s.rooms)) (sym en)

  -- no bytes, nothing moved
  pub untouched : c.to ≡ c.from → number (change c s) ≡ number s → c.bytes ≡ [] → c.from < length s.rooms → devices (change c s) ≡ devices s
  untouched et en eb h =
      ap₂ (λ (n b : ℕ). take n (move [] c.from b written)) en et
      ∙ ap (take (number s)) (move_same [] c.from written (omega (arith, size)) ∙ ap (set s.rooms c.from) (ap (put (room_of s c.from) c.offset) eb ∙ sym (put-none (room_of s c.from) c.offset)) ∙ set-get_or s.rooms c.from [])

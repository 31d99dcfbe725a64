-- A state that was changed: undone, it is the state before.
use Prim.Native.Nat.{ℕ, zero, suc}
use native.Mathlib.Omega.{arith}
use mathlib.Core.Path.{◌≡◌, refl, ap, ◌∙◌}
use mathlib.Core.List.{List, [], ◌∷◌}
use lib.ListN.{length, get_or, set, take, length-set}
use lib.Seq.{set-set, set-get_or, get_or-set_same}
use Rattle.little_endian.specs.Bytes.{put}
use Rattle.memory.specs.Bytes.{span, move}
use Rattle.memory.specs.State.{Now, Change, room_of, change, inverse, pasts}
use Rattle.memory.proofs.Lists.{get_d_moved, move-back, move-set}
use Rattle.memory.proofs.Flat.{put_back}
use Rattle.journal.specs.Contract.{Right}

module _ (s : Now) (c : Change) (r : Right s c) where
  abbrev old : List ℕ
  old = room_of s c.from

  abbrev new : List ℕ
  new = put old c.offset c.bytes

  abbrev saved : List ℕ
  saved = span old c.offset (length c.bytes)

  abbrev written : List (List ℕ)
  written = set s.rooms c.from new

  size : length written ≡ length s.rooms
  size = length-set s.rooms c.from new

  -- the room that was written, in its new place
  there : get_or (move [] c.from c.to written) c.to [] ≡ new
  there = get_d_moved [] c.from c.to written (omega (arith, size, r.starts)) (omega (arith, size, r.ends)) ∙ get_or-set_same s.rooms c.from new [] r.starts

  -- THE law of the journal: undoing is exact, to the byte
  pub exact : change (inverse c s) (change c s) ≡ s
  exact = λ i. record { head = s.head; rooms = back i }
    where
      back : move [] c.to c.from (set (move [] c.from c.to written) c.to (put (get_or (move [] c.from c.to written) c.to []) c.offset saved)) ≡ s.rooms
      back =
          ap (λ (x : List ℕ). move [] c.to c.from (set (move [] c.from c.to written) c.to (put x c.offset saved))) there
          ∙ ap (λ (x : List ℕ). move [] c.to c.from (set (move [] c.from c.to written) c.to x)) (put_back old c.bytes c.offset r.inside)
          ∙ ap (move [] c.to c.from) (move-set [] c.from c.to written (omega (arith, size, r.starts)) (omega (arith, size, r.ends)) old)
          ∙ ap (λ (l : List (List ℕ)). move [] c.to c.from (move [] c.from c.to l)) (set-set s.rooms c.from new old ∙ set-get_or s.rooms c.from [])
          ∙ move-back [] c.from c.to s.rooms r.starts r.ends

pub pasts-take : (n : ℕ) (s : Now) (es : List Change) → pasts s (take n es) ≡ take n (pasts s es)
unfolding pasts
pasts-take zero s es = refl
pasts-take (suc n) s [] = refl
pasts-take (suc n) s (e ∷ es) = ap (λ (l : List Now). change e s ∷ l) (pasts-take n (change e s) es)

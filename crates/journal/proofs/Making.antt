-- The steps of a commit: saved, the room lent and written, settled.
use Prim.Native.Nat.{ℕ, ◌+◌, ◌≤◌}
use native.Mathlib.Omega.{arith}
use mathlib.Core.Path.{◌≡◌, refl, ap, subst}
use mathlib.Core.Bool.{true}
use mathlib.Core.List.{List, ◌++◌}
use lib.ListN.{length, get_or, take, drop}
use Rattle.memory.specs.Layout.{room_size, room_at, capacity, slot}
use Rattle.memory.specs.Sound.{Able}
use Rattle.journal.specs.Contract.{Committed, change_of}
use Rattle.journal.specs.Parts.{Over, Settled, Saved, saving}
use Rattle.journal.proofs.Steps.{over-lent}
use Rattle.journal.proofs.Alter.{changed}
use Rattle.journal.proofs.Whole.{committed}

module _ (m m₁ : List ℕ) (from to offset start : ℕ) (bytes head : List ℕ) (a : Able m from to (get_or head 0 0) offset (length bytes))
    (x : Saved m (saving m from to offset (length bytes)) m₁) (es : start ≡ room_at (slot m₁ from)) where
  pub able₁ : Able m₁ from to (get_or head 0 0) offset (length bytes)
  able₁ = record {
    header = x.stays.header;
    fits = omega (arith, a.fits, x.stays.d);
    there = omega (arith, x.slots from a.fits.starts, a.there, x.stays.d);
  }

  pub room-inside : start + room_size ≤ length m₁
  room-inside = omega (arith, able₁, es)

  module _ (ys : List ℕ) (n : ℕ) (en : n ≡ room_size) (w : Over (take n (drop start m₁)) (λ i. get_or bytes i 0) offset (length bytes) ys) where
    abbrev pub Lent : List ℕ
    Lent = take start m₁ ++ (ys ++ drop n (drop start m₁))

    lent : Over m₁ (λ i. get_or bytes i 0) (start + offset) (length bytes) Lent
    lent = over-lent m₁ ys (λ i. get_or bytes i 0) start n offset (length bytes) (omega (arith, en, room-inside)) (omega (arith, en, a.fits)) w (start + offset) refl

    pub same-capacity : capacity Lent ≡ capacity m₁
    same-capacity = lent.below 1 (omega arith)

    pub same_length : length Lent ≡ length m₁
    same_length = lent.kept

    pub made : (m₂ : List ℕ) → Settled Lent head (capacity Lent) from to m₂ → Committed m (change_of from to offset bytes head) m₂ true
    made m₂ v = committed m m₁ m₂ (change_of from to offset bytes head) a x
        (changed m₁ Lent m₂ (change_of from to offset bytes head) (start + offset) able₁ (ap (λ (k : ℕ). k + offset) es) lent
        (subst (λ (d : ℕ). Settled Lent head d from to m₂) same-capacity v))

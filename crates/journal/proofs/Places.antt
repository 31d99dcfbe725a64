-- The ring of entries: the places of the entries after one is saved, and after the last is taken back.
use Prim.Native.Nat.{ℕ, suc, ◌+◌, ◌-◌, ◌≤◌, ◌<◌}
use native.Mathlib.Omega.{arith}
use mathlib.Core.Path.{◌≡◌, refl}
use mathlib.Core.Bool.{Bool, true, false}
use mathlib.Core.Logic.{◌⊎◌, inl, inr, ⊎_elim}
use lib.Dec.{ltb, eqb}
use borrow.Author.Tests.{ltb-true, ltb-false, eqb-true, eqb-false}
use Rattle.memory.specs.State.{pick, place}
use Rattle.journal.specs.Parts.{turn}

place_cases : (h j i : ℕ) → ((i < h) × (place h j i ≡ h - suc i)) ⊎ ((h ≤ i) × (place h j i ≡ (h + j) - suc i))
unfolding place
place_cases h j i = go (ltb i h) refl
  where
    go : (t : Bool) → ltb i h ≡ t → ((i < h) × (pick t (h - suc i) ((h + j) - suc i) ≡ h - suc i)) ⊎ ((h ≤ i) × (pick t (h - suc i) ((h + j) - suc i) ≡ (h + j) - suc i))
    go true e = inl (ltb-true i h e, refl)
    go false e = inr (ltb-false i h e, refl)

turn_cases : (h j : ℕ) → ((suc h ≡ j) × (turn h j ≡ 0)) ⊎ ((suc h ≡ j → ⊥) × (turn h j ≡ suc h))
turn_cases h j = go (eqb (suc h) j) refl
  where
    go : (t : Bool) → eqb (suc h) j ≡ t → ((suc h ≡ j) × (pick t 0 (suc h) ≡ 0)) ⊎ ((suc h ≡ j → ⊥) × (pick t 0 (suc h) ≡ suc h))
    go true e = inl (eqb-true (suc h) j e, refl)
    go false e = inr (eqb-false (suc h) j e, refl)

pub turn_below : (h j : ℕ) → h < j → turn h j < j
turn_below h j l = ⊎_elim (λ a. omega arith) (λ a. omega arith) (turn_cases h j)

pub place-below : (h j i : ℕ) → h < j → i < j → place h j i < j
place-below h j i l k = ⊎_elim (λ a. omega arith) (λ a. omega arith) (place_cases h j i)

-- the place that was next has the last entry now
pub place_here : (h j : ℕ) → h < j → place (turn h j) j 0 ≡ h
place_here h j l =
    ⊎_elim (λ a. ⊎_elim (λ b. omega arith) (λ b. omega arith) (place_cases (turn h j) j 0)) (λ a. ⊎_elim (λ b. omega arith) (λ b. omega arith) (place_cases (turn h j) j 0)) (turn_cases h j)

-- each entry that was there is one further back
pub place-next : (h j i : ℕ) → h < j → suc i < j → place (turn h j) j (suc i) ≡ place h j i
place-next h j i l k =
    ⊎_elim
    (λ a. ⊎_elim (λ b. ⊎_elim (λ d. omega arith) (λ d. omega arith) (place_cases h j i)) (λ b. ⊎_elim (λ d. omega arith) (λ d. omega arith) (place_cases h j i)) (place_cases (turn h j) j (suc i)))
    (λ a. ⊎_elim (λ b. ⊎_elim (λ d. omega arith) (λ d. omega arith) (place_cases h j i)) (λ b. ⊎_elim (λ d. omega arith) (λ d. omega arith) (place_cases h j i)) (place_cases (turn h j) j (suc i)))
    (turn_cases h j)

pub place-apart : (h j i : ℕ) → h < j → suc i < j → place h j i ≡ h → ⊥
place-apart h j i l k e = ⊎_elim (λ a. omega arith) (λ a. omega arith) (place_cases h j i)

-- taken back: the place before is next, and each entry is one nearer
pub place-back : (h j i : ℕ) → h < j → suc i < j → place (place h j 0) j i ≡ place h j (suc i)
place-back h j i l k =
    ⊎_elim
    (λ a. ⊎_elim (λ b. ⊎_elim (λ d. omega arith) (λ d. omega arith) (place_cases h j (suc i))) (λ b. ⊎_elim (λ d. omega arith) (λ d. omega arith) (place_cases h j (suc i))) (place_cases (place h j 0) j i))
    (λ a. ⊎_elim (λ b. ⊎_elim (λ d. omega arith) (λ d. omega arith) (place_cases h j (suc i))) (λ b. ⊎_elim (λ d. omega arith) (λ d. omega arith) (place_cases h j (suc i))) (place_cases (place h j 0) j i))
    (place_cases h j 0)

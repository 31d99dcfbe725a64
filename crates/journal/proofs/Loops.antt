-- The loops that write bytes one after the other.
use Prim.Native.Nat.{ℕ, ◌+◌, ◌≤◌, ◌<◌}
use native.Mathlib.Omega.{arith}
use native.Mathlib.Decide.{dec_lt}
use mathlib.Core.Path.{◌≡◌, refl, sym, ap, ◌∙◌}
use mathlib.Core.List.{List}
use lib.ListN.{length, get_or, set, length-set}
use Rattle.journal.specs.Parts.{Over}
use Rattle.memory.proofs.Flat.{set_same, set_other}

pub over_none : (m : List ℕ) (f : ℕ → ℕ) (to : ℕ) → Over m f to 0 m
over_none m f to = record { kept = refl; inside = λ i h. absurd (omega arith); below = λ i h. refl; above = λ i h. refl }

pub over-more : (m m₁ : List ℕ) (f : ℕ → ℕ) (to i k v : ℕ) → k ≡ to + i → k < length m → v ≡ f i → Over m f to i m₁ → Over m f to (i + 1) (set m₁ k v)
over-more m m₁ f to i k v ek a ev c = record {
  kept = length-set m₁ k v ∙ c.kept;
  inside = λ n l. elim (dec_lt n i) as (λ _. get_or (set m₁ k v) (to + n) 0 ≡ f n) [
    | yes p ↦ set_other m₁ k v (to + n) (λ e. omega arith) ∙ c.inside n p
    | no p ↦ (let e : n ≡ i = omega arith in
        ap (λ (x : ℕ). get_or (set m₁ k v) x 0) (omega arith) ∙ set_same m₁ k v (omega (arith, c.kept)) ∙ ev ∙ ap f (sym e))
  ];
  below = λ n l. set_other m₁ k v n (λ e. omega arith) ∙ c.below n l;
  above = λ n l. set_other m₁ k v n (λ e. omega arith) ∙ c.above n (omega arith);
}

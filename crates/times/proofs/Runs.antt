-- A run of digits before what starts with none.
use Prim.Native.Nat.{ℕ, zero, suc, ◌-◌}
use native.Mathlib.Omega.{arith}
use mathlib.Core.Path.{◌≡◌, refl, ap, ◌∙◌}
use mathlib.Core.List.{List, [], ◌∷◌}
use mathlib.Core.Bool.{Bool, true, false, not, ◌&&◌, cond}
use lib.ListN.{drop}
use lib.Dec.{eqb}
use borrow.Author.Tests.{ne_eqb}
use Rattle.abnf.specs.Abnf.{◌·◌, times, up_to, repeat}
use Rattle.abnf.specs.Accepts.{in_range, starts}
use Rattle.times.specs.Datetime.{DIGIT}
use Rattle.times.specs.Parts.{digits}

-- what goes on never with a digit
abbrev pub NoDigit : (List ℕ → Bool) → Type 0
NoDigit k = (b : ℕ) (r : List ℕ) → in_range 48 57 b ≡ true → k (b ∷ r) ≡ false

or-none : (t u v : Bool) → t ≡ v → u ≡ false → elim t as (λ x. Bool) [ true ↦ true | false ↦ u ] ≡ v
or-none true u v p q = p
or-none false u v p q = q ∙ p

pub starts-up_to : (n : ℕ) (k : List ℕ → Bool) → NoDigit k → (s : List ℕ) → starts (up_to n DIGIT) k s ≡ k (drop (digits n s) s)
unfolding starts digits
starts-up_to zero k h s = refl
starts-up_to (suc n) k h [] = refl
starts-up_to (suc n) k h (b ∷ s) = go (in_range 48 57 b) refl (starts-up_to n k h s)
  where
    go : (t : Bool) → in_range 48 57 b ≡ t → starts (up_to n DIGIT) k s ≡ k (drop (digits n s) s)
        → elim (elim t as (λ x. Bool) [ true ↦ starts (up_to n DIGIT) k s | false ↦ false ]) as (λ x. Bool) [ true ↦ true | false ↦ k (b ∷ s) ] ≡ k (drop (cond t (suc (digits n s)) 0) (b ∷ s))
    go true e i = or-none (starts (up_to n DIGIT) k s) (k (b ∷ s)) (k (drop (digits n s) s)) i (h b s e)
    go false e i = refl

run : (n : ℕ) (k : List ℕ → Bool) → NoDigit k → (s : List ℕ) → starts (times 1 DIGIT · up_to n DIGIT) k s ≡ (not (eqb (digits (suc n) s) 0) && k (drop (digits (suc n) s) s))
unfolding starts digits
run n k h [] = refl
run n k h (b ∷ s) = go (in_range 48 57 b)
  where
    go : (t : Bool) → elim t as (λ x. Bool) [ true ↦ starts (up_to n DIGIT) k s | false ↦ false ] ≡ (not (eqb (cond t (suc (digits n s)) 0) 0) && k (drop (cond t (suc (digits n s)) 0) (b ∷ s)))
    go true = rw (ne_eqb (suc (digits n s)) 0 (λ e. omega arith)) (starts-up_to n k h s)
    go false = refl

pub starts-run : (n : ℕ) (k : List ℕ → Bool) → NoDigit k → (s : List ℕ) → starts (repeat 1 (suc n) DIGIT) k s ≡ (not (eqb (digits (suc n) s) 0) && k (drop (digits (suc n) s) s))
starts-run n k h s = let e : suc n - 1 ≡ n = omega arith in ap (λ (m : ℕ). starts (times 1 DIGIT · up_to m DIGIT) k s) e ∙ run n k h s

-- A text with a sign in front, and whole numbers by their sign.
use Prim.Native.Nat.{ℕ, ◌+◌, ◌-◌, ◌≤◌, ◌<◌}
use native.Mathlib.Omega.{arith}
use mathlib.Core.Path.{◌≡◌, refl, sym, ap, ◌∙◌}
use mathlib.Core.List.{List, [], ◌∷◌, ◌++◌}
use mathlib.Core.Bool.{Bool, true, false, cond, ◌&&◌, and-true}
use lib.Dec.{leb, eqb}
use lib.ListN.{length, get_or, drop}
use lib.IntN.{pos, neg_ℤ}
use lib.Signed.{le_z}
use borrow.Author.Tests.{eqb-true, ne_eqb}
use Rattle.numbers.specs.Digits.{is_digit, digits}
use Rattle.numbers.specs.Whole.{signed, minus, between, stands}
use Rattle.numbers.specs.Parts.{all_digits}
use Rattle.numbers.proofs.Difference.{sub_eq, neg-pos, pos-sub}
use Rattle.numbers.proofs.Order.{minus_minus, minus_plus}
use Rattle.abnf.proofs.Steps.{both}
use Rattle.numbers.proofs.Texts.{sign, digit_is, uncons-digits}

-- what comes after the sign
abbrev pub unsigned : List ℕ → List ℕ
unsigned s = cond (minus s) (drop 1 s) s

-- a digit stands first
pub first-digit : (ds r : List ℕ) → all_digits ds ≡ true → 0 < length ds → is_digit (get_or (ds ++ r) 0 0) ≡ true
first-digit [] r e l = absurd (omega arith)
first-digit (b ∷ ds) r e l = (uncons-digits b ds e).0

no_minus : (b : ℕ) → is_digit b ≡ true → eqb b 45 ≡ false
no_minus b e = let p = digit_is b e in let l = p.0 in ne_eqb b 45 (λ i. omega arith)

pub minus-sign : (neg : Bool) (t : List ℕ) → is_digit (get_or t 0 0) ≡ true → minus (sign neg ++ t) ≡ neg
minus-sign true t e = refl
minus-sign false t e = no_minus (get_or t 0 0) e

pub unsigned-sign : (neg : Bool) (t : List ℕ) → is_digit (get_or t 0 0) ≡ true → unsigned (sign neg ++ t) ≡ t
unsigned-sign true t e = refl
unsigned-sign false t e = rw (no_minus (get_or t 0 0) e)

-- every text is its sign and the rest
pub resign : (s : List ℕ) → s ≡ sign (minus s) ++ unsigned s
resign [] = refl
resign (b ∷ s) = both (eqb b 45) (λ e. rw e (ap (λ (c : ℕ). c ∷ s) (eqb-true b 45 e))) (λ e. rw e)

pub digits-sign : (neg : Bool) (t : List ℕ) → digits (sign neg ++ t) ≡ digits t
unfolding digits
digits-sign true t = refl
digits-sign false t = refl

pub all_digits_lem : (ds : List ℕ) → all_digits ds ≡ true → digits ds ≡ ds
unfolding digits
all_digits_lem [] e = refl
all_digits_lem (b ∷ ds) e = let p = uncons-digits b ds e in rw p.0 (ap (λ (l : List ℕ). b ∷ l) (all_digits_lem ds p.1))

-- from -low to high
module _ (low high : ℕ) where
  pub between-minus : (n : ℕ) → between (neg_ℤ (pos low)) (pos high) (signed true n) ≡ leb n low
  between-minus n =
      ap (λ (t : Bool). t && le_z (signed true n) (pos high)) (minus_minus low n)
      ∙ ap (λ (t : Bool). leb n low && t) (minus_plus n high)
      ∙ and-true (leb n low)

  pub between-plus : (n : ℕ) → between (neg_ℤ (pos low)) (pos high) (signed false n) ≡ leb n high
  between-plus n = ap (λ (t : Bool). t && leb n high) (minus_plus low n)

-- n - k, for n = k - m and n = k + m
pub stands-minus : (k m : ℕ) → m ≤ k → stands k (k - m) ≡ signed true m
stands-minus k m h = sub_eq (k - m) k 0 m (omega arith) ∙ sym (neg-pos m)

pub stands-plus : (k m : ℕ) → stands k (k + m) ≡ signed false m
stands-plus k m = sub_eq (k + m) k m 0 (omega arith) ∙ sym (pos-sub m)

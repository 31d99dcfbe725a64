-- The loop of `read_natural`.
use Rattle.std.specs.Prelude.{None, Option, Some}
use Prim.Native.Nat.{ℕ, ◌+◌, ◌-◌, ◌*◌, ◌^◌, ◌<◌, ◌≤◌}
use mathlib.Core.Path.{◌≡◌, ◌∙◌, sym}
use mathlib.Core.List.{List, [], ◌∷◌}
use mathlib.Core.Bool.{true, false, cond, ◌&&◌, and-false}
use native.Mathlib.Omega.{arith}
use native.Mathlib.Numerals.{add-one}
use lib.Dec.{leb, eqb}
use lib.ListN.{length, get_or, drop, drop_of_length-le}
use lib.Seq.{drop-cons}
use borrow.Author.Tests.{le-leb, lt-leb, lt-ltb, eqb-true, eqb-false}
use Rattle.std.specs.Char.{is_ascii_digit}
use Rattle.numbers.specs.Digits.{is_digit, numeral}
use Rattle.numbers.specs.Parts.{all_digits, natural}
use Rattle.numbers.proofs.Texts.{digit_is}

-- what is left of a text, after digits that write a
unfoldable pub onward : ℕ → List ℕ → Option ℕ
onward a t = cond (all_digits t && leb (numeral a t) (2 ^ 63)) (Some (numeral a t)) None

-- more digits write no less
grows : (a : ℕ) (t : List ℕ) → a ≤ numeral a t
unfolding numeral
grows a [] = omega arith
grows a (d ∷ ds) = let g = grows (a * 10 + (d - 48)) ds in omega arith

over : (a : ℕ) (t : List ℕ) → 2 ^ 63 < a → onward a t ≡ None
unfolding onward
over a t h = let g = grows a t in rw (lt-leb (numeral a t) (2 ^ 63) (omega arith), and-false (all_digits t))

pub none : (s : List ℕ) → eqb (length s) 0 ≡ true → None ≡ natural s
unfolding natural
none s h = rw (eqb-true (length s) 0 h)

-- the first i bytes of s are digits, and write a
pub record SoFar (s : List ℕ) (a i : ℕ) : Type 0 where
  pub within : i ≤ length s
  pub small : a ≤ 2 ^ 63 + 1
  pub rest : onward a (drop i s) ≡ natural s

pub start : (s : List ℕ) → eqb (length s) 0 ≡ false → SoFar s 0 0
unfolding onward natural
start s h = let n : length s ≡ 0 → ⊥ = eqb-false (length s) 0 h in record { within = omega arith; small = omega arith; rest = rw (lt-ltb 0 (length s) (omega arith)) }

module _ {s : List ℕ} {a i : ℕ} (so_far : SoFar s a i) where
  pub end-over : length s ≤ i → 2 ^ 63 < a → None ≡ natural s
  end-over h l = sym (over a (drop i s) l) ∙ so_far.rest

  last : length s ≤ i → a ≤ 2 ^ 63 → Some a ≡ onward a (drop i s)
  unfolding onward numeral all_digits
  last h l = rw (drop_of_length-le s h, le-leb a (2 ^ 63) l)

  pub end : length s ≤ i → a ≤ 2 ^ 63 → Some a ≡ natural s
  end h l = last h l ∙ so_far.rest

  stop : i < length s → is_digit (get_or s i 0) ≡ false → None ≡ onward a (drop i s)
  unfolding onward all_digits
  stop h e = rw (drop-cons s i 0 h, e)

  pub other : i < length s → false ≡ is_ascii_digit (get_or s i 0) → None ≡ natural s
  other h e = stop h (sym e) ∙ so_far.rest

  step : i < length s → true ≡ is_ascii_digit (get_or s i 0) → onward (a * 10 + (get_or s i 0 - 48)) (drop (i + 1) s) ≡ onward a (drop i s)
  unfolding onward numeral all_digits
  step h e = let d : is_digit (get_or s i 0) ≡ true = sym e in rw (add-one, drop-cons s i 0 h, d)

  pub much : i < length s → true ≡ is_ascii_digit (get_or s i 0) → 922337203685477580 < a → None ≡ natural s
  much h e m = sym (over (a * 10 + (get_or s i 0 - 48)) (drop (i + 1) s) (omega arith)) ∙ step h e ∙ so_far.rest

  pub one_more : {w : ℕ} → i < length s → true ≡ is_ascii_digit (get_or s i 0) → a ≤ 922337203685477580 → w ≡ get_or s i 0 - 48 → SoFar s (a * 10 + w) (i + 1)
  one_more h e m q = rw q (record { within = omega arith; small = omega (arith, digit_is (get_or s i 0) (sym e)); rest = step h e ∙ so_far.rest })

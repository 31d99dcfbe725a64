-- The loop of `read`: digits so far, and the rest.
use Rattle.std.specs.Prelude.{Option, None, Some}
use Prim.Native.Nat.{ℕ, ◌+◌, ◌-◌, ◌*◌, ◌/◌, ◌^◌, ◌<◌, ◌≤◌}
use mathlib.Core.Path.{◌≡◌, ◌∙◌, sym}
use mathlib.Core.List.{List, [], ◌∷◌}
use mathlib.Core.Bool.{false, cond, ◌&&◌, and-false}
use native.Mathlib.Omega.{arith}
use native.Mathlib.Numerals.{add-one}
use lib.Dec.{ltb}
use lib.ListN.{length, get_or, drop, drop_of_length-le}
use lib.Seq.{drop-cons}
use borrow.Author.Tests.{le-leb, lt-leb, lt-ltb, le-ltb}
use Rattle.text.specs.Bytes.{every}
use Rattle.numbers.specs.Digits.{is_digit, numeral}
use Rattle.lines.specs.Number.{number_of}

-- what is left of a text, after digits that write a
unfoldable pub onward : ℕ → List ℕ → Option ℕ
onward a t = cond (every is_digit t && ltb (numeral a t) (2 ^ 64)) (Some (numeral a t)) None

-- more digits write no less
grows : (a : ℕ) (t : List ℕ) → a ≤ numeral a t
unfolding numeral
grows a [] = omega arith
grows a (d ∷ ds) = let g = grows (a * 10 + (d - 48)) ds in omega arith

over : (a : ℕ) (t : List ℕ) → 2 ^ 64 ≤ a → onward a t ≡ None
unfolding onward
over a t h = let g = grows a t in rw (le-ltb (numeral a t) (2 ^ 64) (omega arith), and-false (every is_digit t))

pub no-digits : (s : List ℕ) → length s ≡ 0 → None ≡ number_of s
unfolding number_of
no-digits s h = rw h

-- the first i bytes are digits, and write a
pub record SoFar (s : List ℕ) (a i : ℕ) : Type 0 where
  pub within : i ≤ length s
  pub small : a < 2 ^ 64
  pub rest : onward a (drop i s) ≡ number_of s

pub start : (s : List ℕ) → (length s ≡ 0 → ⊥) → SoFar s 0 0
unfolding onward number_of
start s h = record { within = omega arith; small = omega arith; rest = rw (le-leb 1 (length s) (omega arith)) }

module _ {s : List ℕ} {a i : ℕ} (so_far : SoFar s a i) where
  last : length s ≤ i → Some a ≡ onward a (drop i s)
  unfolding onward numeral every
  last h = rw (drop_of_length-le s h, lt-ltb a (2 ^ 64) so_far.small)

  pub end : length s ≤ i → Some a ≡ number_of s
  end h = last h ∙ so_far.rest

  other : i < length s → is_digit (get_or s i 0) ≡ false → None ≡ onward a (drop i s)
  unfolding onward every
  other h e = rw (drop-cons s i 0 h, e)

  pub low : i < length s → get_or s i 0 < 48 → None ≡ number_of s
  low h l = other h (rw (lt-leb 48 (get_or s i 0) l)) ∙ so_far.rest

  pub high : i < length s → 57 < get_or s i 0 → None ≡ number_of s
  high h u = other h (rw (le-leb 48 (get_or s i 0) (omega arith), lt-leb (get_or s i 0) 57 u)) ∙ so_far.rest

  step : i < length s → 48 ≤ get_or s i 0 → get_or s i 0 ≤ 57 → onward (a * 10 + (get_or s i 0 - 48)) (drop (i + 1) s) ≡ onward a (drop i s)
  unfolding onward numeral every
  step h l u = rw (add-one, drop-cons s i 0 h, le-leb 48 (get_or s i 0) l, le-leb (get_or s i 0) 57 u)

  module _ (h : i < length s) (l : 48 ≤ get_or s i 0) (u : get_or s i 0 ≤ 57) where
    much : 2 ^ 64 ≤ a * 10 + (get_or s i 0 - 48) → None ≡ number_of s
    much m = sym (over (a * 10 + (get_or s i 0 - 48)) (drop (i + 1) s) m) ∙ step h l u ∙ so_far.rest

    pub one-over : {w : ℕ} → w ≡ get_or s i 0 - 48 → (18446744073709551615 - w) / 10 < a → None ≡ number_of s
    one-over e m = much (omega arith)

    pub one_more : {w : ℕ} → w ≡ get_or s i 0 - 48 → a ≤ (18446744073709551615 - w) / 10 → SoFar s (a * 10 + w) (i + 1)
    one_more e m = rw e (record { within = omega arith; small = omega arith; rest = step h l u ∙ so_far.rest })

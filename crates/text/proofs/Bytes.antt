-- Equality and order of byte strings.
use Prim.Native.Nat.{ℕ, suc, ◌+◌, ◌≤◌, ◌<◌, min}
use native.Mathlib.Numerals.{add-one}
use native.Mathlib.Omega.{arith}
use mathlib.Core.Path.{◌≡◌, refl, sym, ap, ◌∙◌}
use mathlib.Core.List.{List, [], ◌∷◌}
use mathlib.Core.Bool.{Bool, true, false, ◌&&◌, ◌||◌, false≢true, and-false}
use lib.Dec.{ltb, leb, eqb}
use lib.ListN.{length, drop, get_or, drop_of_length-le}
use lib.Seq.{drop-cons}
use borrow.Author.Tests.{leb-true, leb-false, eqb-true, lt-ltb, le-ltb, eq-eqb, ne_eqb}
use Rattle.abnf.specs.Accepts.{in_range}
use Rattle.text.specs.Bytes.{eq_bytes, less_bytes}

-- by cases of a test, with its equation
pub both {ℓ} : {X : Type ℓ} (b : Bool) → (b ≡ true → X) → (b ≡ false → X) → X
both true f g = f refl
both false f g = g refl

pub at_most {ℓ} : {X : Type ℓ} (b n : ℕ) → (b ≤ n → X) → (n < b → X) → X
at_most b n f g = both (leb b n) (λ e. f (leb-true b n e)) (λ e. g (leb-false b n e))

pub and_both : (a b : Bool) → (a && b) ≡ true → (a ≡ true) × (b ≡ true)
and_both true b e = (refl, e)
and_both false b e = absurd (false≢true e)

pub or_cases {ℓ} : {X : Type ℓ} (a b : Bool) → (a || b) ≡ true → (a ≡ true → X) → (b ≡ true → X) → X
or_cases true b e f g = f refl
or_cases false b e f g = g e

pub in_range_lem : (lo hi b : ℕ) → in_range lo hi b ≡ true → (lo ≤ b) × (b ≤ hi)
in_range_lem lo hi b e = let q = and_both (leb lo b) (leb b hi) e in (leb-true lo b q.0, leb-true b hi q.1)

-- ---- equality

pub eq-long : (a b : List ℕ) → (length a ≡ length b → ⊥) → eq_bytes a b ≡ false
unfolding eq_bytes
eq-long [] [] n = absurd (n refl)
eq-long [] (y ∷ b) n = refl
eq-long (x ∷ a) [] n = refl
eq-long (x ∷ a) (y ∷ b) n = rw (eq-long a b (λ e. n (ap suc e))) (and-false (eqb x y))

pub eq_bytes-refl : (a : List ℕ) → eq_bytes a a ≡ true
unfolding eq_bytes
eq_bytes-refl [] = refl
eq_bytes-refl (x ∷ a) = rw (eq-eqb x x refl) (eq_bytes-refl a)

pub eq_bytes-true : (a b : List ℕ) → eq_bytes a b ≡ true → a ≡ b
unfolding eq_bytes
eq_bytes-true [] [] e = refl
eq_bytes-true [] (y ∷ b) e = absurd (false≢true e)
eq_bytes-true (x ∷ a) [] e = absurd (false≢true e)
eq_bytes-true (x ∷ a) (y ∷ b) e = both (eqb x y)
    (λ p. let q = eqb-true x y p in let r = eq_bytes-true a b (rw p at e) in cc)
    (λ p. absurd (false≢true (rw p at e)))

pub eq_bytes-false : (a b : List ℕ) → eq_bytes a b ≡ false → a ≡ b → ⊥
eq_bytes-false a b e p = false≢true (sym e ∙ rw p (eq_bytes-refl b))

pub eq_bytes_yes : (a b : List ℕ) → a ≡ b → eq_bytes a b ≡ true
eq_bytes_yes a b p = rw p (eq_bytes-refl b)

pub eq_bytes_no : (a b : List ℕ) → (a ≡ b → ⊥) → eq_bytes a b ≡ false
eq_bytes_no a b n = both (eq_bytes a b) (λ e. absurd (n (eq_bytes-true a b e))) (λ e. e)

-- two strings that are equal behind the byte at i
module _ (a b : List ℕ) (i : ℕ) where
  pub eq-end : i ≡ length a → length a ≡ length b → drop i a ≡ drop i b
  eq-end e f = drop_of_length-le a {i = i} (omega arith) ∙ sym (drop_of_length-le b {i = i} (omega arith))

  pub eq_differs : (get_or a i 0 ≡ get_or b i 0 → ⊥) → false ≡ eq_bytes a b
  eq_differs n = sym (eq_bytes_no a b (λ p. n (ap (λ (l : List ℕ). get_or l i 0) p)))

  pub eq-back : i < length a → i < length b → drop (i + 1) a ≡ drop (i + 1) b → get_or a i 0 ≡ get_or b i 0 → drop i a ≡ drop i b
  eq-back h k e f = rw (drop-cons a i 0 h, drop-cons b i 0 k, ← add-one i, e, f)

pub eq_bytes_sym : (a b : List ℕ) → eq_bytes a b ≡ eq_bytes b a
eq_bytes_sym a b = both (eq_bytes a b)
    (λ e. e ∙ sym (eq_bytes_yes b a (sym (eq_bytes-true a b e))))
    (λ e. e ∙ sym (eq_bytes_no b a (λ p. eq_bytes-false a b e (sym p))))

-- ---- order

module _ (a b : List ℕ) (i : ℕ) where
  less_none : (l : List ℕ) → less_bytes l [] ≡ false
  unfolding less_bytes
  less_none l = refl

  pub less-end : length b ≤ i → false ≡ less_bytes (drop i a) (drop i b)
  less-end h = sym (ap (less_bytes (drop i a)) (drop_of_length-le b h) ∙ less_none (drop i a))

  pub less-short : length a ≤ i → i < length b → true ≡ less_bytes (drop i a) (drop i b)
  unfolding less_bytes
  less-short h k = rw (drop_of_length-le a h, drop-cons b i 0 k)

  module _ (h : i < length a) (k : i < length b) where
    less-step : less_bytes (drop i a) (drop i b) ≡ (ltb (get_or a i 0) (get_or b i 0) || (eqb (get_or a i 0) (get_or b i 0) && less_bytes (drop (i + 1) a) (drop (i + 1) b)))
    unfolding less_bytes
    less-step = rw (add-one, drop-cons a i 0 h, drop-cons b i 0 k)

    pub less-here : (get_or a i 0 ≡ get_or b i 0 → ⊥) → ltb (get_or a i 0) (get_or b i 0) ≡ less_bytes (drop i a) (drop i b)
    less-here n = sym (less-step ∙ rw (ne_eqb (get_or a i 0) (get_or b i 0) n) (or_no (ltb (get_or a i 0) (get_or b i 0))))
      where
        or_no : (t : Bool) → (t || false) ≡ t
        or_no true = refl
        or_no false = refl

    pub less-next : get_or a i 0 ≡ get_or b i 0 → less_bytes (drop (i + 1) a) (drop (i + 1) b) ≡ less_bytes (drop i a) (drop i b)
    less-next e = sym (less-step ∙ rw (le-ltb (get_or a i 0) (get_or b i 0) (omega arith), eq-eqb (get_or a i 0) (get_or b i 0) e))

-- where the shorter has ended
pub less_shorter : (a b : List ℕ) (n : ℕ) → n ≡ min (length a) (length b) → ltb (length a) (length b) ≡ less_bytes (drop n a) (drop n b)
less_shorter a b n e =
    at_most (length b) n
    (λ h. le-ltb (length a) (length b) (omega arith) ∙ less-end a b n h)
    (λ h. let g : length a ≤ n = omega arith in lt-ltb (length a) (length b) (omega arith) ∙ less-short a b n g h)

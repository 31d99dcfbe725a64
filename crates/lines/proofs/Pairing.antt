-- Pairs of digits.
use Rattle.std.specs.List.{list_all}
use Prim.Native.Nat.{ℕ, suc, ◌+◌, ◌-◌, ◌*◌, ◌%◌, ◌≤◌, ◌<◌}
use mathlib.Core.Path.{◌≡◌, refl, sym, ap, ◌∙◌, subst}
use mathlib.Core.List.{List, [], ◌∷◌}
use mathlib.Core.Bool.{Bool, true, false, ◌&&◌}
use native.Mathlib.Omega.{arith}
use native.Mathlib.Numerals.{add-one}
use lib.Dec.{leb}
use lib.ListN.{length, get_or, drop, drop_of_length-le, set, length-set}
use lib.Seq.{drop-cons}
use borrow.Author.Tests.{le-leb, lt-leb, leb-true}
use Rattle.text.proofs.Bytes.{and_both, at_most}
use Rattle.little_endian.specs.Bytes.{put}
use Rattle.little_endian.proofs.Put.{put-none}
use Rattle.lines.specs.Hex.{value_of, is_digit, are_pairs, pairs}
use Rattle.lines.proofs.Putting.{store_then}

-- ---- digits

module _ (b : ℕ) where
  pub value_low : b < 48 → 16 ≡ value_of b
  unfolding value_of
  value_low h = rw (lt-leb 48 b h, lt-leb 97 b (omega arith))

  pub value-digit : 48 ≤ b → b ≤ 57 → b - 48 ≡ value_of b
  unfolding value_of
  value-digit h k = rw (le-leb 48 b h, le-leb b 57 k)

  pub value_middle : 57 < b → b < 97 → 16 ≡ value_of b
  unfolding value_of
  value_middle h k = rw (le-leb 48 b (omega arith), lt-leb b 57 h, lt-leb 97 b k)

  pub value-letter : 97 ≤ b → b ≤ 102 → b - 87 ≡ value_of b
  unfolding value_of
  value-letter h k = rw (le-leb 48 b (omega arith), lt-leb b 57 (omega arith), le-leb 97 b h, le-leb b 102 k)

  pub value-high : 102 < b → 16 ≡ value_of b
  unfolding value_of
  value-high h = rw (le-leb 48 b (omega arith), lt-leb b 57 (omega arith), le-leb 97 b (omega arith), lt-leb b 102 h)

-- ---- pairs at a place

drop-one : (w : List ℕ) (i : ℕ) → i < length w → length w ≤ i + 1 → drop i w ≡ get_or w i 0 ∷ []
drop-one w i h k = let l : length w ≤ suc i = omega arith in drop-cons w i 0 h ∙ ap (λ (t : List ℕ). get_or w i 0 ∷ t) (drop_of_length-le w l)

drop-two : (w : List ℕ) (i : ℕ) → i + 1 < length w → drop i w ≡ get_or w i 0 ∷ (get_or w (i + 1) 0 ∷ drop (i + 2) w)
drop-two w i h =
    let e : i + 2 ≡ suc (suc i) = omega arith in
    rw (e, add-one i) (drop-cons w i 0 (omega arith) ∙ ap (λ (t : List ℕ). get_or w i 0 ∷ t) (drop-cons w (suc i) 0 (omega arith)))

-- ---- judging

module _ (w : List ℕ) (i : ℕ) where
  step : i + 1 < length w → are_pairs (drop i w) ≡ (leb (value_of (get_or w i 0)) 15 && (leb (value_of (get_or w (i + 1) 0)) 15 && are_pairs (drop (i + 2) w)))
  unfolding are_pairs is_digit
  step h = rw (drop-two w i h)

-- ---- digits, alone and all

module _ (b : ℕ) where
  pub is_digit-number : 48 ≤ b → b ≤ 57 → true ≡ is_digit b
  unfolding is_digit
  is_digit-number h k = rw (← value-digit b h k) (sym (le-leb (b - 48) 15 (omega arith)))

  pub is_digit-letter : 97 ≤ b → b ≤ 102 → true ≡ is_digit b
  unfolding is_digit
  is_digit-letter h k = rw (← value-letter b h k) (sym (le-leb (b - 87) 15 (omega arith)))

  none : 16 ≡ value_of b → false ≡ is_digit b
  unfolding is_digit
  none e = rw (← e)

  pub is_digit-none : (48 ≤ b → b ≤ 57 → ⊥) → (97 ≤ b → b ≤ 102 → ⊥) → false ≡ is_digit b
  is_digit-none n m = at_most b 47
      (λ h. none (value_low b (omega arith)))
      (λ h. at_most b 57 (λ k. absurd (n (omega arith) k))
      (λ k. at_most b 96 (λ l. none (value_middle b k (omega arith)))
      (λ l. at_most b 102 (λ x. absurd (m (omega arith) x)) (λ x. none (value-high b x)))))

pub all-pairs : (w : List ℕ) → length w % 2 ≡ 0 → list_all is_digit w ≡ are_pairs w
unfolding are_pairs
all-pairs [] e = refl
all-pairs (a ∷ []) e = absurd (omega arith)
all-pairs (a ∷ (b ∷ s)) e = ap (λ (r : Bool). is_digit a && (is_digit b && r)) (all-pairs s (omega arith))

-- ---- filling

-- a digit is one of two ranges
pub digit-first : (b : ℕ) → is_digit b ≡ true → 48 ≤ b
unfolding is_digit
digit-first b e =
    let v : value_of b ≤ 15 = leb-true (value_of b) 15 e in
    at_most b 47 (λ h. absurd (omega (arith, value_low b (omega arith)))) (λ h. omega arith)

pub digit-second : (b : ℕ) → is_digit b ≡ true → 57 < b → (97 ≤ b) × (b ≤ 102)
unfolding is_digit
digit-second b e l =
    let v : value_of b ≤ 15 = leb-true (value_of b) 15 e in (
      at_most b 96 (λ h. absurd (omega (arith, value_middle b l (omega arith)))) (λ h. omega arith),
      at_most b 102 (λ h. h) (λ h. absurd (omega (arith, value-high b h))),
    )

pub record Filled (w d₀ d : List ℕ) (i k : ℕ) : Type 0 where
  pub within : i ≤ length w
  pub good : are_pairs (drop i w) ≡ true
  pub size : length d ≡ length d₀
  pub fits : k + length (pairs (drop i w)) ≤ length d
  pub rest : put d k (pairs (drop i w)) ≡ put d₀ 0 (pairs w)

pub filled_at : {w d₀ d : List ℕ} {i j k : ℕ} → Filled w d₀ d i k → i ≡ j → Filled w d₀ d j k
filled_at {w} {d₀} {d} {k = k} p e = subst (λ (x : ℕ). Filled w d₀ d x k) e p

module _ (w d₀ d : List ℕ) (i k : ℕ) (f : Filled w d₀ d i k) where
  pub fill_end : length w ≤ i → d ≡ put d₀ 0 (pairs w)
  unfolding pairs
  fill_end h = put-none d k ∙ rw (drop_of_length-le w h) at f.rest

  module _ (h : i + 1 < length w) where
    digits : (leb (value_of (get_or w i 0)) 15 ≡ true) × ((leb (value_of (get_or w (i + 1) 0)) 15 && are_pairs (drop (i + 2) w)) ≡ true)
    digits = and_both (leb (value_of (get_or w i 0)) 15) (leb (value_of (get_or w (i + 1) 0)) 15 && are_pairs (drop (i + 2) w)) (sym (step w i h) ∙ f.good)

    others : (leb (value_of (get_or w (i + 1) 0)) 15 ≡ true) × (are_pairs (drop (i + 2) w) ≡ true)
    others = and_both (leb (value_of (get_or w (i + 1) 0)) 15) (are_pairs (drop (i + 2) w)) digits.1

    pub first-digit : is_digit (get_or w i 0) ≡ true
    unfolding is_digit
    first-digit = digits.0

    pub second-digit : is_digit (get_or w (i + 1) 0) ≡ true
    unfolding is_digit
    second-digit = others.0

    more : pairs (drop i w) ≡ (value_of (get_or w i 0) * 16 + value_of (get_or w (i + 1) 0)) ∷ pairs (drop (i + 2) w)
    unfolding pairs
    more = rw (drop-two w i h)

    pub fill-room : k < length d
    fill-room = let e : length (pairs (drop i w)) ≡ suc (length (pairs (drop (i + 2) w))) = rw more in omega (arith, f.fits)

    pub fill-next : (x : ℕ) → x ≡ value_of (get_or w i 0) * 16 + value_of (get_or w (i + 1) 0) → Filled w d₀ (set d k x) (i + 2) (k + 1)
    fill-next x e =
        let m : length (pairs (drop i w)) ≡ suc (length (pairs (drop (i + 2) w))) = rw more in
        record {
          within = omega arith;
          good = others.1;
          size = rw length-set f.size;
          fits = rw length-set (omega (arith, f.fits));
          rest = store_then d k x (pairs (drop (i + 2) w)) fill-room ∙ rw (e, ← more) f.rest;
        }

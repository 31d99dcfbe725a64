-- Bytes and digits at a place.
use Prim.Native.Nat.{ℕ, zero, suc, ◌+◌, ◌*◌, ◌-◌, ◌<◌, ◌≤◌}
use native.Mathlib.Numerals.{add-one}
use native.Mathlib.Omega.{arith}
use mathlib.Core.Path.{◌≡◌, refl, sym, ap, ◌∙◌}
use mathlib.Core.List.{List, [], ◌∷◌}
use mathlib.Core.Bool.{Bool, true, false, cond, and-false}
use lib.ListN.{length, drop, drop_of_length-le, get_or-eq_default}
use lib.Seq.{drop-cons}
use lib.Dec.{ltb}
use borrow.Author.Tests.{ltb-true, ltb-false}
use Rattle.std.specs.Prelude.{Option, Some, None, is_some, unwrap_or}
use Rattle.std.specs.Char.{is_ascii_digit}
use Rattle.abnf.specs.Accepts.{in_range}
use Rattle.abnf.proofs.Steps.{both, range-true, above_range}
use Rattle.times.specs.Parts.{byte_at, digit_of, pair_of, digits}

pub byte_past : (s : List ℕ) (i : ℕ) → length s ≤ i → byte_at s i ≡ 256
byte_past s i h = get_or-eq_default s 256 h

-- a digit's value
pub digit_no : (b : ℕ) → in_range 48 57 b ≡ false → None ≡ digit_of b
unfolding digit_of
digit_no b e = rw e

pub digit_yes : (b : ℕ) → in_range 48 57 b ≡ true → Some (b - 48) ≡ digit_of b
unfolding digit_of
digit_yes b e = rw e

pub digit-past : (s : List ℕ) (i : ℕ) → length s ≤ i → None ≡ digit_of (byte_at s i)
digit-past s i h = digit_no (byte_at s i) (above_range 48 57 (byte_at s i) (omega (arith, byte_past s i h)))

module _ {b : ℕ} (c : ℕ) (q : b ≡ c) where
  pub digit-got : is_ascii_digit b ≡ true → Some (b - 48) ≡ digit_of c
  digit-got e = rw q (digit_yes c (rw (← q) e))

  pub digit-other : is_ascii_digit b ≡ false → None ≡ digit_of c
  digit-other e = digit_no c (rw (← q) e)

-- whether there is one is seen from the value
pub is_digit : (b : ℕ) → is_some (digit_of b) ≡ in_range 48 57 b
unfolding digit_of
is_digit b = both (in_range 48 57 b) (λ e. rw e) (λ e. rw e)

-- the number of two digits
module _ (b : ℕ) where
  digit-none : None ≡ digit_of b → in_range 48 57 b ≡ false
  digit-none e = sym (is_digit b) ∙ ap is_some (sym e)

  digit-some : {p : ℕ} → Some p ≡ digit_of b → in_range 48 57 b ≡ true
  digit-some e = sym (is_digit b) ∙ ap is_some (sym e)

  digit-value : {p : ℕ} → Some p ≡ digit_of b → p ≡ b - 48
  digit-value {p} e = ap (λ (o : Option ℕ). unwrap_or o 0) (e ∙ sym (digit_yes b (digit-some e)))

  pub digit-most : {p : ℕ} → Some p ≡ digit_of b → p ≤ 9
  digit-most e = omega (arith, digit-value e, range-true 48 57 b (digit-some e))

module _ (a b : ℕ) where
  pub pair-first : None ≡ digit_of a → None ≡ pair_of a b
  unfolding pair_of
  pair-first e = rw (digit-none a e)

  pub pair-second : None ≡ digit_of b → None ≡ pair_of a b
  unfolding pair_of
  pair-second e = rw (digit-none b e, and-false (in_range 48 57 a))

  pub pair_is : {p q : ℕ} → Some p ≡ digit_of a → Some q ≡ digit_of b → Some (10 * p + q) ≡ pair_of a b
  unfolding pair_of
  pair_is e f = rw (digit-some a e, digit-some b f, digit-value a e, digit-value b f)

-- digits one after another
pub digits_go : (s : List ℕ) (n i : ℕ) → in_range 48 57 (byte_at s i) ≡ true → digits (suc n) (drop i s) ≡ suc (digits n (drop (i + 1) s))
unfolding digits
digits_go s n i e =
    both (ltb i (length s))
    (λ q. rw (drop-cons s i 256 (ltb-true i (length s) q), e, add-one i))
    (λ q. absurd (omega (arith, byte_past s i (ltb-false i (length s) q), (range-true 48 57 (byte_at s i) e).1)))

pub digits-stop : (s : List ℕ) (n i : ℕ) → in_range 48 57 (byte_at s i) ≡ false → digits n (drop i s) ≡ 0
unfolding digits
digits-stop s zero i e = refl
digits-stop s (suc n) i e =
    both (ltb i (length s))
    (λ q. rw (drop-cons s i 256 (ltb-true i (length s) q), e))
    (λ q. rw (drop_of_length-le s (ltb-false i (length s) q)))

-- the loop over digits
pub record Passed (s : List ℕ) (at e : ℕ) : Type 0 where
  pub from : at ≤ e
  pub to : e ≤ at + 9
  pub same : at + digits 9 (drop at s) ≡ e + digits (at + 9 - e) (drop e s)

pub passed_go : (s : List ℕ) (at e : ℕ) {r : Option ℕ} → Passed s at e → e < at + 9 → r ≡ digit_of (byte_at s e) → is_some r ≡ true → Passed s at (e + 1)
passed_go s at e {r} p l q h =
    let t : in_range 48 57 (byte_at s e) ≡ true = sym (is_digit (byte_at s e)) ∙ ap is_some (sym q) ∙ h in
    let n : at + 9 - e ≡ suc (at + 9 - (e + 1)) = omega arith in
    let g : digits (at + 9 - e) (drop e s) ≡ suc (digits (at + 9 - (e + 1)) (drop (e + 1) s)) = rw n (digits_go s (at + 9 - (e + 1)) e t) in
    record { from = omega arith; to = omega arith; same = omega arith }

pub passed-stop : (s : List ℕ) (at e : ℕ) {r : Option ℕ} → Passed s at e → r ≡ digit_of (byte_at s e) → is_some r ≡ false → e ≡ at + digits 9 (drop at s)
passed-stop s at e {r} p q h =
    let t : in_range 48 57 (byte_at s e) ≡ false = sym (is_digit (byte_at s e)) ∙ ap is_some (sym q) ∙ h in
    omega (arith, digits-stop s (at + 9 - e) e t)

pub passed-all : (s : List ℕ) (at e : ℕ) → Passed s at e → at + 9 ≤ e → e ≡ at + digits 9 (drop at s)
unfolding digits
passed-all s at e p h =
    let n : at + 9 - e ≡ 0 = omega arith in
    let g : digits (at + 9 - e) (drop e s) ≡ 0 = rw n in
    omega arith

pub digits-most : (n : ℕ) (s : List ℕ) → digits n s ≤ n
unfolding digits
digits-most zero s = omega arith
digits-most (suc n) [] = omega arith
digits-most (suc n) (b ∷ s) = pick (in_range 48 57 b) (digits-most n s)
  where
    pick : (t : Bool) → digits n s ≤ n → cond t (suc (digits n s)) 0 ≤ suc n
    pick true h = omega arith
    pick false h = omega arith

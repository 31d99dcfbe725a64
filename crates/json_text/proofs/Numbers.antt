-- Laws of numbers.
use Rattle.std.specs.Prelude.{Err, Ok, Result}
use Prim.Native.Nat.{ℕ, ◌+◌, ◌<◌}
use native.Mathlib.Omega.{arith}
use mathlib.Core.Path.{◌≡◌, refl, sym, ap, ◌∙◌}
use mathlib.Core.List.{List}
use mathlib.Core.Bool.{Bool, true, false}
use lib.ListN.{length}
use borrow.Author.Tests.{ne_eqb, eq-eqb}
use Rattle.json_text.specs.Bytes.{byte, and_then, Skipped, Scanned, Moved}
use Rattle.json_text.specs.Number.{is_digit, digits_end, optional, is_minus, is_sign, some_digits, int_at, frac_at, is_exp, exp_at, number_at}
use Rattle.json_text.proofs.Bytes.{inside=, past-inside}
use Rattle.json_text.proofs.Scans.{same_as, moved, scanned}

pub digit-inside : (s : List ℕ) (at : ℕ) → is_digit (byte s at) ≡ true → at < length s
unfolding is_digit
digit-inside s at e = past-inside is_digit s at refl e

module _ (s : List ℕ) (at : ℕ) where
  pub minus_yes : byte s at ≡ 45 → at + 1 ≡ optional is_minus s at
  unfolding optional is_minus
  minus_yes b = rw (ap is_minus b, optional)

  pub minus_no : (byte s at ≡ 45 → ⊥) → at ≡ optional is_minus s at
  unfolding optional is_minus
  minus_no f = rw (ne_eqb (byte s at) 45 f, optional)

  pub some_yes : is_digit (byte s at) ≡ true → Ok (digits_end s (at + 1)) ≡ some_digits s at
  unfolding some_digits
  some_yes e = rw (e, some_digits)

  pub some_no : is_digit (byte s at) ≡ false → Err at ≡ some_digits s at
  unfolding some_digits
  some_no e = rw (e, some_digits)

  pub sign-plus : byte s at ≡ 43 → at + 1 ≡ optional is_sign s at
  unfolding optional is_sign
  sign-plus b = rw (ap is_sign b, optional)

  pub sign-minus : byte s at ≡ 45 → at + 1 ≡ optional is_sign s at
  unfolding optional is_sign
  sign-minus b = rw (ap is_sign b, optional)

  sign-none : (b : ℕ) → (b ≡ 43 → ⊥) → (b ≡ 45 → ⊥) → is_sign b ≡ false
  unfolding is_sign
  sign-none b f g = rw (ne_eqb b 43 f, ne_eqb b 45 g)

  pub sign_no : (byte s at ≡ 43 → ⊥) → (byte s at ≡ 45 → ⊥) → at ≡ optional is_sign s at
  unfolding optional
  sign_no f g = rw (sign-none (byte s at) f g, optional)

  pub int-zero : byte s at ≡ 48 → Ok (at + 1) ≡ int_at s at
  unfolding int_at
  int-zero b = rw (eq-eqb (byte s at) 48 b, int_at)

  pub int-digits : (byte s at ≡ 48 → ⊥) → some_digits s at ≡ int_at s at
  unfolding int_at
  int-digits f = rw (ne_eqb (byte s at) 48 f, int_at)

  pub frac_yes : byte s at ≡ 46 → some_digits s (at + 1) ≡ frac_at s at
  unfolding frac_at
  frac_yes b = rw (eq-eqb (byte s at) 46 b, frac_at)

  pub frac_no : (byte s at ≡ 46 → ⊥) → Ok at ≡ frac_at s at
  unfolding frac_at
  frac_no f = rw (ne_eqb (byte s at) 46 f, frac_at)

  pub exp-upper : byte s at ≡ 69 → some_digits s (optional is_sign s (at + 1)) ≡ exp_at s at
  unfolding exp_at is_exp
  exp-upper b = rw (ap is_exp b, exp_at)

  pub exp-lower : byte s at ≡ 101 → some_digits s (optional is_sign s (at + 1)) ≡ exp_at s at
  unfolding exp_at is_exp
  exp-lower b = rw (ap is_exp b, exp_at)

  pub number-int : (m e : ℕ) → m ≡ optional is_minus s at → int_at s m ≡ Err e → Err e ≡ number_at s at
  unfolding number_at and_then
  number-int m e p q = rw (← p, q)

  pub number-frac : (m i e : ℕ) → m ≡ optional is_minus s at → int_at s m ≡ Ok i → frac_at s i ≡ Err e → Err e ≡ number_at s at
  unfolding number_at and_then
  number-frac m i e p q r = rw (← p, q) (rw r)

  pub number-exp : (m i j : ℕ) → m ≡ optional is_minus s at → int_at s m ≡ Ok i → frac_at s i ≡ Ok j → exp_at s j ≡ number_at s at
  unfolding number_at and_then
  number-exp m i j p q r = rw (← p, q) (rw r)

-- ---- what each function ensures, b being the byte at `at`

module _ (s : List ℕ) (at : ℕ) {b : ℕ} (p : b ≡ byte s at) where
  pub hit : (k : ℕ) → b ≡ k → k < 256 → at < length s
  hit k q h = inside= s at k (sym p ∙ q) h

  pub minus_one : b ≡ 45 → Skipped (optional is_minus s at) at (length s) (at + 1)
  minus_one q = let h = hit 45 q (omega arith) in record { is = minus_yes s at (sym p ∙ q); from = omega arith; to = omega arith }

  pub minus-none : (b ≡ 45 → ⊥) → Skipped (optional is_minus s at) at (length s) at
  minus-none f = record { is = minus_no s at (λ q. f (p ∙ q)); from = omega arith; to = omega arith }

  module _ {t : Bool} (x : t ≡ is_sign b) where
    pub sign-inside : t ≡ true → at < length s
    unfolding is_sign
    sign-inside e = past-inside is_sign s at refl (ap is_sign (sym p) ∙ sym x ∙ e)

    pub one-sign : t ≡ true → Skipped (optional is_sign s at) at (length s) (at + 1)
    unfolding optional
    one-sign e = let h = sign-inside e in record { is = sym (rw (ap is_sign (sym p) ∙ sym x ∙ e, optional)); from = omega arith; to = omega arith }

    pub no_sign : t ≡ false → Skipped (optional is_sign s at) at (length s) at
    unfolding optional
    no_sign e = record { is = sym (rw (ap is_sign (sym p) ∙ sym x ∙ e, optional)); from = omega arith; to = omega arith }

  pub one-digit : {t : Bool} → t ≡ is_digit b → t ≡ true → is_digit (byte s at) ≡ true
  one-digit q e = ap is_digit (sym p) ∙ sym q ∙ e

  pub all_digits : {t : Bool} {r : ℕ} → t ≡ is_digit b → t ≡ true → Skipped (digits_end s (at + 1)) (at + 1) (length s) r → Scanned (some_digits s at) at (length s) (Ok r)
  all_digits q e w =
      let h = digit-inside s at (one-digit q e) in
      let k = w.from in
      let l = w.to in
      record { is = ap Ok w.is ∙ some_yes s at (one-digit q e); lies = (omega arith, omega arith) }

  pub no_digit : {t : Bool} → t ≡ is_digit b → t ≡ false → Scanned (some_digits s at) at (length s) (Err at)
  no_digit q e = record { is = some_no s at (ap is_digit (sym p) ∙ sym q ∙ e); lies = (omega arith, omega arith) }

  pub zero-int : b ≡ 48 → Scanned (int_at s at) at (length s) (Ok (at + 1))
  zero-int q = let h = hit 48 q (omega arith) in record { is = int-zero s at (sym p ∙ q); lies = (omega arith, omega arith) }

  pub other-int : {r : Result ℕ ℕ} → (b ≡ 48 → ⊥) → Scanned (some_digits s at) at (length s) r → Scanned (int_at s at) at (length s) r
  other-int f w = same_as (int-digits s at (λ q. f (p ∙ q))) w

  pub some-frac : {r : Result ℕ ℕ} → b ≡ 46 → Scanned (some_digits s (at + 1)) (at + 1) (length s) r → Moved (frac_at s at) at (length s) r
  some-frac q w = let h = hit 46 q (omega arith) in moved (frac_yes s at (sym p ∙ q)) (omega arith) (omega arith) w

  pub no-frac : (b ≡ 46 → ⊥) → Moved (frac_at s at) at (length s) (Ok at)
  no-frac f = record { is = frac_no s at (λ q. f (p ∙ q)); lies = (omega arith, omega arith) }

  module _ {t : Bool} (x : t ≡ is_exp b) where
    pub exp-inside : t ≡ true → at < length s
    unfolding is_exp
    exp-inside e = past-inside is_exp s at refl (ap is_exp (sym p) ∙ sym x ∙ e)

    pub some-exp : {r : Result ℕ ℕ} {j : ℕ} → t ≡ true → Skipped (optional is_sign s (at + 1)) (at + 1) (length s) j → Scanned (some_digits s j) j (length s) r → Moved (exp_at s at) at (length s) r
    unfolding exp_at
    some-exp e w u =
        let h = exp-inside e in
        let k = w.from in
        let l = w.to in
        moved (ap (some_digits s) w.is ∙ sym (rw (ap is_exp (sym p) ∙ sym x ∙ e, exp_at))) (omega arith) (omega arith) u

    pub no-exp : t ≡ false → Moved (exp_at s at) at (length s) (Ok at)
    unfolding exp_at
    no-exp e = record { is = sym (rw (ap is_exp (sym p) ∙ sym x ∙ e, exp_at)); lies = (omega arith, omega arith) }

-- a number's parts, one after another
module _ (s : List ℕ) (at m : ℕ) (a : Skipped (optional is_minus s at) at (length s) m) where
  pub bad-int : {e : ℕ} → Scanned (int_at s m) m (length s) (Err e) → Scanned (number_at s at) at (length s) (Err e)
  bad-int {e} w = let l = w.lies in let k = a.from in let n = a.to in record { is = number-int s at m e a.is (sym w.is); lies = (omega arith, omega arith) }

  module _ (i : ℕ) (w : Scanned (int_at s m) m (length s) (Ok i)) where
    pub bad-frac : {e : ℕ} → Moved (frac_at s i) i (length s) (Err e) → Scanned (number_at s at) at (length s) (Err e)
    bad-frac {e} u = let l = w.lies in let k = a.from in let n = u.lies in record { is = number-frac s at m i e a.is (sym w.is) (sym u.is); lies = (omega arith, omega arith) }

    pub with-exp : {j : ℕ} {r : Result ℕ ℕ} → Moved (frac_at s i) i (length s) (Ok j) → Moved (exp_at s j) j (length s) r → Scanned (number_at s at) at (length s) r
    with-exp {j} u x = let l = w.lies in let k = a.from in let n = u.lies in scanned (number-exp s at m i j a.is (sym w.is) (sym u.is)) (omega arith) (omega arith) x

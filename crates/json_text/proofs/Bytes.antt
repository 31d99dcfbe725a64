-- Bytes by index, and runs of them.
use Prim.Native.Nat.{ℕ, zero, suc, ◌+◌, ◌-◌, ◌≤◌, ◌<◌, max}
use native.Mathlib.Nat.{lt_of_not-le, not-suc-le-zero, le_of_suc-le-suc}
use native.Mathlib.Numerals.{add-one}
use native.Mathlib.Decide.{dec_le}
use native.Mathlib.Omega.{arith}
use mathlib.Core.Path.{◌≡◌, refl, sym, ap, subst, ◌∙◌}
use mathlib.Core.List.{List, [], ◌∷◌}
use mathlib.Core.Bool.{Bool, true, false, true≢false}
use lib.ListN.{length, get_or, drop, get_or-eq_default, drop_of_length-le}
use lib.Seq.{drop-cons}
use Rattle.json_text.specs.Bytes.{byte, run, past, is_ws, ws, Skipped}

-- one order or the other
pub split {ℓ} : {X : Type ℓ} (a b : ℕ) → (a ≤ b → X) → (b < a → X) → X
split a b f g = elim (dec_le a b) [ yes h ↦ f h | no h ↦ g (lt_of_not-le h) ]

-- a test's two values, with the equation
pub both {ℓ} : {X : Type ℓ} (b : Bool) → (b ≡ true → X) → (b ≡ false → X) → X
both true f g = f refl
both false f g = g refl

-- inside the list the default does not matter
pub byte_in : (s : List ℕ) (at : ℕ) → at < length s → get_or s at 0 ≡ byte s at
unfolding byte
byte_in [] at h = absurd (not-suc-le-zero h)
byte_in (x ∷ s) zero h = refl
byte_in (x ∷ s) (suc at) h = byte_in s at (le_of_suc-le-suc h)

pub byte_out : (s : List ℕ) (at : ℕ) → length s ≤ at → byte s at ≡ 256
unfolding byte
byte_out s at h = get_or-eq_default s 256 h

-- what is not 256 lies inside
pub inside : (s : List ℕ) (at : ℕ) → (byte s at ≡ 256 → ⊥) → at < length s
inside s at f = split (length s) at (λ h. absurd (f (byte_out s at h))) (λ h. h)

pub inside= : (s : List ℕ) (at k : ℕ) → byte s at ≡ k → k < 256 → at < length s
inside= s at k e h = inside s at (λ q. omega arith)

-- ---- a run goes on, or is over

pub run_more : (p : ℕ → Bool) (s : List ℕ) (at : ℕ) → at < length s → p (byte s at) ≡ true → run p (drop at s) ≡ suc (run p (drop (suc at) s))
unfolding run byte
run_more p s at h e = rw (drop-cons s at 256 h) (rw (e, run))

pub run-stop : (p : ℕ → Bool) (s : List ℕ) (at : ℕ) → p (byte s at) ≡ false → run p (drop at s) ≡ 0
unfolding run byte
run-stop p s at e = split (length s) at (λ h. rw (drop_of_length-le s h)) (λ h. rw (drop-cons s at 256 h) (rw (e, run)))

module _ (p : ℕ → Bool) (s : List ℕ) (at : ℕ) where
  pub past_more : at < length s → p (byte s at) ≡ true → past p s (at + 1) ≡ past p s at
  unfolding past
  past_more h e = let q = run_more p s at h e in rw (add-one at) (omega arith)

  pub past_stop : p (byte s at) ≡ false → past p s at ≡ at
  unfolding past
  past_stop e = let q = run-stop p s at e in omega arith

  pub past-inside : p 256 ≡ false → p (byte s at) ≡ true → at < length s
  past-inside n e = inside s at (λ q. true≢false (sym e ∙ ap p q ∙ n))

-- a loop over the run from `at` has come to i
pub record Passing (p : ℕ → Bool) (s : List ℕ) (at i : ℕ) : Type 0 where
  pub from : at ≤ i
  pub to : i - length s ≤ at - length s
  pub same : past p s i ≡ past p s at

module _ {p : ℕ → Bool} {s : List ℕ} {at i : ℕ} (v : Passing p s at i) where
  passing-end : p (byte s i) ≡ false → Skipped (past p s at) at (length s) i
  passing-end e = record { is = sym (past_stop p s i e) ∙ v.same; from = v.from; to = v.to }

  -- the test of the byte that stands there
  module _ (h : i < length s) {b : ℕ} {t : Bool} (q : b ≡ get_or s i 0) (w : t ≡ p b) where
    tested : p (byte s i) ≡ t
    tested = ap p (sym (q ∙ byte_in s i h)) ∙ sym w

    pub passing-more : t ≡ true → Passing p s at (i + 1)
    passing-more e = record { from = omega arith; to = omega arith; same = past_more p s i h (tested ∙ e) ∙ v.same }

    pub passing-stop : t ≡ false → Skipped (past p s at) at (length s) i
    passing-stop e = passing-end (tested ∙ e)

  -- no byte is left
  pub passing-out : p 256 ≡ false → length s ≤ i → {r : ℕ} → r ≡ max at (length s) → Skipped (past p s at) at (length s) r
  passing-out n h {r} e =
      let a = v.from in
      let b = v.to in
      let z : i ≡ r = omega arith in
      subst (λ (k : ℕ). Skipped (past p s at) at (length s) k) z (passing-end (ap p (byte_out s i h) ∙ n))

-- ---- white space

pub ws-stop : (s : List ℕ) (at : ℕ) → is_ws (byte s at) ≡ false → ws s at ≡ at
unfolding ws
ws-stop s at e = past_stop is_ws s at e

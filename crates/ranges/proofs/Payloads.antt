-- The payloads that a format lets pass, in the words of the grammar.
use Rattle.std.specs.Prelude.{Option, None, Some}
use Prim.Native.Nat.{ℕ, zero, suc}
use mathlib.Core.Path.{◌≡◌, refl, sym, ap, ◌∙◌}
use mathlib.Core.Logic.{◌↔◌, ◌⊎◌, inl, inr}
use mathlib.Core.List.{List}
use mathlib.Core.Bool.{Bool, true, false, false≢true}
use lib.IntN.{ℤ}
use Rattle.abnf.specs.Abnf.{◌∈◌}
use Rattle.numbers.specs.Grammar.{integer-text, float-text, fixed-text}
use Rattle.numbers.specs.Integer.{value, is_64_bit, integer}
use Rattle.numbers.specs.Step.{in_bounds, base, steps, in_range}
use Rattle.numbers.specs.Decimal.{Scientific, scientific, is_small, decimal}
use Rattle.numbers.specs.Billionths.{in_billionths, billionths}
use Rattle.numbers.proofs.Theorems.{integer-words, decimal-words}
use Rattle.ranges.specs.Ranges.{Range, FloatBounds, exactly, stepped, integer_range, float_range, step_of, whole_in_range, decimal_in_range, is_integer, is_float}
use Rattle.ranges.specs.Promises.{rounded_to, holds_whole, holds_float}
use Rattle.ranges.proofs.Words.{shape-words}

pub held-rounded : (min max : Option ℤ) (s : ℕ) (v : ℤ) → in_range min max s v ≡ in_bounds min max (rounded_to (base min max) s v)
unfolding in_range steps
held-rounded None None zero v = refl
held-rounded None None (suc s) v = refl
held-rounded None (Some b) zero v = refl
held-rounded None (Some b) (suc s) v = refl
held-rounded (Some a) max zero v = refl
held-rounded (Some a) max (suc s) v = refl

-- a test that asks for a number that is held
module _ {N : Type 0} (test : Option N → Bool) (holds : N → Bool) (no_number : test None ≡ false) (is : (v : N) → test (Some v) ≡ holds v) where
  there : (p : Option N) → test p ≡ true → (v : N) × (p ≡ Some v) × (holds v ≡ true)
  there None e = absurd (false≢true (sym no_number ∙ e))
  there (Some v) e = (v, refl, sym (is v) ∙ e)

  -- where the number that is read is v, exactly for the texts of A and B
  pub passes : {A B : Type 0} (p : Option N) (v : N) → ((z : N) → (p ≡ Some z) ↔ (A × B × (v ≡ z))) → (test p ≡ true) ↔ (A × B × (holds v ≡ true))
  passes p v words = (
    λ e. let q = there p e in let w = (words q.0).0 q.1 in (w.0, w.1, ap holds w.2 ∙ q.2),
    λ q. rw ((words v).1 (q.0, q.1, refl)) (is v ∙ q.2),
  )

module _ (format s : List ℕ) where
  -- where there is no range, nothing passes
  no-integer : integer_range format ≡ None → is_integer format s ≡ false
  unfolding is_integer
  no-integer e = rw e

  no_float : float_range format ≡ None → is_float format s ≡ false
  unfolding is_float
  no_float e = rw e

  in_integers : (r : Range ℤ) → integer_range format ≡ Some r → (is_integer format s ≡ true) ↔ ((s ∈ integer-text) × (is_64_bit (value s) ≡ true) × (holds_whole r (value s) ≡ true))
  unfolding is_integer
  in_integers r e = rw e (passes (whole_in_range (Some r)) (holds_whole r) refl (λ v. held-rounded r.min r.max (step_of r.step) v) (integer s) (value s) (integer-words s))

  in_decimals : (r : Range Scientific) → float_range format ≡ Some (exactly r) → (is_float format s ≡ true) ↔ ((s ∈ float-text) × (is_small s ≡ true) × (holds_float r (scientific s) ≡ true))
  unfolding is_float
  in_decimals r e = rw e (passes (decimal_in_range (Some r)) (holds_float r) refl (λ v. refl) (decimal s) (scientific s) (decimal-words s))

  in-billionths : (r : Range ℤ) → float_range format ≡ Some (stepped r) → (is_float format s ≡ true) ↔ ((s ∈ fixed-text) × (true ≡ true) × (holds_whole r (in_billionths s) ≡ true))
  unfolding is_float
  in-billionths r e = rw e (passes (whole_in_range (Some r)) (holds_whole r) refl (λ v. held-rounded r.min r.max (step_of r.step) v) (billionths s) (in_billionths s) (shape-words s))

  pub integers_are : (is_integer format s ≡ true) ↔ ((r : Range ℤ) × (integer_range format ≡ Some r) × (s ∈ integer-text) × (is_64_bit (value s) ≡ true) × (holds_whole r (value s) ≡ true))
  integers_are = (λ e. to (integer_range format) refl e, λ q. (in_integers q.0 q.1).1 (q.2, q.3, q.4))
    where
      to : (o : Option (Range ℤ)) → integer_range format ≡ o → is_integer format s ≡ true → (r : Range ℤ) × (integer_range format ≡ Some r) × (s ∈ integer-text) × (is_64_bit (value s) ≡ true) × (holds_whole r (value s) ≡ true)
      to None i e = absurd (false≢true (sym (no-integer i) ∙ e))
      to (Some r) i e = let w = (in_integers r i).0 e in (r, i, w.0, w.1, w.2)

  pub floats_are : (is_float format s ≡ true) ↔ (((r : Range Scientific) × (float_range format ≡ Some (exactly r)) × (s ∈ float-text) × (is_small s ≡ true) × (holds_float r (scientific s) ≡ true))
      ⊎ ((r : Range ℤ) × (float_range format ≡ Some (stepped r)) × (s ∈ fixed-text) × (holds_whole r (in_billionths s) ≡ true)))
  floats_are = (λ e. to (float_range format) refl e, from)
    where
      to : (o : Option FloatBounds) → float_range format ≡ o → is_float format s ≡ true → ((r : Range Scientific) × (float_range format ≡ Some (exactly r)) × (s ∈ float-text) × (is_small s ≡ true) × (holds_float r (scientific s) ≡ true))
          ⊎ ((r : Range ℤ) × (float_range format ≡ Some (stepped r)) × (s ∈ fixed-text) × (holds_whole r (in_billionths s) ≡ true))
      to None i e = absurd (false≢true (sym (no_float i) ∙ e))
      to (Some (exactly r)) i e = let w = (in_decimals r i).0 e in inl (r, i, w.0, w.1, w.2)
      to (Some (stepped r)) i e = let w = (in-billionths r i).0 e in inr (r, i, w.0, w.2)

      from : ((r : Range Scientific) × (float_range format ≡ Some (exactly r)) × (s ∈ float-text) × (is_small s ≡ true) × (holds_float r (scientific s) ≡ true))
          ⊎ ((r : Range ℤ) × (float_range format ≡ Some (stepped r)) × (s ∈ fixed-text) × (holds_whole r (in_billionths s) ≡ true)) → is_float format s ≡ true
      from (inl q) = (in_decimals q.0 q.1).1 (q.2, q.3, q.4)
      from (inr q) = (in-billionths q.0 q.1).1 (q.2, refl, q.3)

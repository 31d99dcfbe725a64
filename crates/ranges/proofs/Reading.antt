-- Bounds, steps and ranges from what was read.
use Rattle.std.specs.Prelude.{Option, None, Some, option_map}
use Prim.Native.Nat.{ℕ, ◌^◌}
use native.Mathlib.Omega.{arith}
use mathlib.Core.Path.{◌≡◌, refl, ap, ◌∙◌}
use mathlib.Core.List.{List, [], ◌∷◌}
use mathlib.Core.Bool.{Bool, true, false, cond}
use borrow.Author.Tests.{ne_eqb}
use lib.IntN.{ℤ}
use lib.Signed.{le_z}
use lib.ListN.{length}
use Rattle.numbers.specs.Integer.{integer_read}
use Rattle.numbers.specs.Whole.{stands}
use Rattle.numbers.specs.Decimal.{Scientific, decimal, exact, of_whole}
use Rattle.numbers.specs.declared.decimals.Decimal.{Decimal}
use Rattle.numbers.specs.Ratio.{decimal_in_bounds}
use Rattle.numbers.specs.Billionths.{billionths}
use Rattle.ranges.specs.Ranges.{Range, positive, le_decimal, exactly, stepped, float_range, whole_in_range, decimal_in_range, is_float, is_float_up_to}
use Rattle.ranges.specs.Parts.{Fields, two, three, other, bound, within, keep, with_step, from_fields, float_fields, given, whole_limit_of, exact_limit_of}

-- a bound of the code is the rule's, where the number that was read is
pub given-bound : {M N : Type 0} (f : M → N) (read : List ℕ → Option N) (s : List ℕ) (r : Option M) → option_map f r ≡ read s → option_map (option_map f) (given s r) ≡ bound read s
unfolding bound
given-bound f read [] r e = refl
given-bound {M = M} {N = N} f read (b ∷ s) r e = ap (λ (t : Bool). option_map (option_map f) (cond t (Some None) (option_map Some r))) (ne_eqb (length (b ∷ s)) 0 (λ h. omega arith)) ∙ mapped r ∙ ap (option_map Some) e
  where
    mapped : (o : Option M) → option_map (option_map f) (option_map Some o) ≡ option_map Some (option_map f o)
    mapped None = refl
    mapped (Some n) = refl

pub whole-bound : (read : List ℕ → Option ℤ) (s : List ℕ) (r : Option ℕ) {m : Option (Option ℕ)} → m ≡ given s r → integer_read r ≡ read s → whole_limit_of m ≡ bound read s
whole-bound read s r h e = ap whole_limit_of h ∙ given-bound (stands (2 ^ 63)) read s r e

pub exact-bound : (s : List ℕ) (r : Option Decimal) {m : Option (Option Decimal)} → m ≡ given s r → option_map exact r ≡ decimal s → exact_limit_of m ≡ bound decimal s
exact-bound s r h e = ap exact_limit_of h ∙ given-bound exact decimal s r e

-- a range from its fields
pub range_other : {N : Type 0} (read : List ℕ → Option N) (le : N → N → Bool) (above : N → Bool) {f : Fields} → other ≡ f → None ≡ from_fields read le above f
unfolding from_fields
range_other read le above e = rw (← e)

pub range-three : {N : Type 0} (read : List ℕ → Option N) (le : N → N → Bool) (above : N → Bool) {f : Fields} {min max step : List ℕ} {a b : Option (Option N)} {o : Option N} →
    three min max step ≡ f → a ≡ bound read min → b ≡ bound read max → o ≡ read step → with_step le a b (keep above o) ≡ from_fields read le above f
unfolding from_fields
range-three read le above e p q h = rw (← e, p, q, h)

pub range-bounds : {N : Type 0} (read : List ℕ → Option N) (le : N → N → Bool) (above : N → Bool) {f : Fields} {min max : List ℕ} {a b : Option (Option N)} →
    two min max ≡ f → a ≡ bound read min → b ≡ bound read max → within le a b None ≡ from_fields read le above f
unfolding from_fields
range-bounds read le above e p q = rw (← e, p, q)

-- the bounds of a float
pub two-bounds : {a b : Option (Option Scientific)} (min max : List ℕ) → a ≡ bound decimal min → b ≡ bound decimal max → option_map exactly (within le_decimal a b None) ≡ float_fields (two min max)
two-bounds min max p q = ap (option_map exactly) (range-bounds decimal le_decimal (λ step. true) refl p q)

pub three-bounds : {r : Option (Range ℤ)} {a b : Option (Option ℤ)} {o : Option ℤ} (min max step : List ℕ) →
    r ≡ with_step le_z a b (keep positive o) → a ≡ bound billionths min → b ≡ bound billionths max → o ≡ billionths step → option_map stepped r ≡ float_fields (three min max step)
three-bounds min max step e p q h = ap (option_map stepped) (e ∙ range-three billionths le_z positive refl p q h)

-- a payload and its range
module _ (format s : List ℕ) where
  pub no-bounds : None ≡ float_range format → false ≡ is_float format s
  unfolding is_float
  no-bounds e = rw (← e)

  pub in_bounds : {r : Range Scientific} {t : Bool} → Some (exactly r) ≡ float_range format → t ≡ decimal_in_range (Some r) (decimal s) → t ≡ is_float format s
  unfolding is_float
  in_bounds e h = rw (← e) h

  pub in-steps : {r : Range ℤ} {o : Option ℤ} {t : Bool} → Some (stepped r) ≡ float_range format → o ≡ billionths s → t ≡ whole_in_range (Some r) o → t ≡ is_float format s
  unfolding is_float
  in-steps e f h = rw (← e, ← f) h

module _ (most : ℕ) (s : List ℕ) where
  up_to-none : None ≡ decimal s → false ≡ is_float_up_to most s
  unfolding is_float_up_to
  up_to-none e = rw (← e, is_float_up_to)

  up_to_is : {v : Scientific} (low high : Scientific) {t : Bool} → Some v ≡ decimal s → t ≡ decimal_in_bounds (Some low) (Some high) v → low ≡ of_whole 0 → high ≡ of_whole most → t ≡ is_float_up_to most s
  unfolding is_float_up_to
  up_to_is {v} low high e h p q = rw (← e, is_float_up_to) (h ∙ ap (λ (x : Scientific). decimal_in_bounds (Some x) (Some high) v) p ∙ ap (λ (x : Scientific). decimal_in_bounds (Some (of_whole 0)) (Some x) v) q)

  pub up_to : (low high : Scientific) (o : Option Scientific) {t : Bool} → o ≡ decimal s → t ≡ decimal_in_range (Some (record { min = Some low; max = Some high; step = None })) o → low ≡ of_whole 0 → high ≡ of_whole most → t ≡ is_float_up_to most s
  up_to low high None e h p q = h ∙ up_to-none e
  up_to low high (Some v) e h p q = up_to_is low high e h p q

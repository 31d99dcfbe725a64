-- What the theorems say of formats and payloads, in the words of the grammars.
use Rattle.std.specs.Prelude.{ℕ, zero, suc, ◌≡◌, List, [], Bool, true, cond, get_or, ℤ, Option, None, Some}
use Rattle.abnf.specs.Abnf.{Abnf, ◌∈◌}
use Rattle.abnf.specs.Accepts.{is_empty}
use Rattle.numbers.specs.Step.{rounded, in_bounds, base}
use Rattle.numbers.specs.Decimal.{Scientific}
use Rattle.numbers.specs.Ratio.{decimal_in_bounds}
use Rattle.ranges.specs.Ranges.{Range, range-text, fields_of, step_of}

-- ---- formats

-- the number that a field writes, if it is not left out
abbrev pub number_in : {N : Type 0} → (List ℕ → N) → List ℕ → Option N
number_in value f = cond (is_empty f) None (Some (value f))

-- Numbers of a type have the texts `number`, each of which writes a value; `fits` tells which of these texts are within the type's limits (64 bits; 18 digits and the exponent's range; texts of K7's shape are within theirs).
pub record IsRange {N : Type 0} (number : Abnf ⊥) (value : List ℕ → N) (fits : List ℕ → Bool) (le : N → N → Bool) (above : N → Bool) (s : List ℕ) (r : Range N) : Type 0 where
  -- "`[min]:[max][:step]`"
  pub word : s ∈ range-text number
  -- "each number of the property's own type"; a field that is left out fits
  pub own : (i : ℕ) → fits (get_or (fields_of s) i []) ≡ true
  pub min : r.min ≡ number_in value (get_or (fields_of s) 0 [])
  pub max : r.max ≡ number_in value (get_or (fields_of s) 1 [])
  pub step : r.step ≡ number_in value (get_or (fields_of s) 2 [])
  -- "min not above max"
  pub ordered : (a b : N) → r.min ≡ Some a → r.max ≡ Some b → le a b ≡ true
  -- "step above 0"
  pub positive : (n : N) → r.step ≡ Some n → above n ≡ true

-- ---- payloads

-- a value as it is held against the bounds: rounded where there are a step and a base
abbrev pub rounded_to : Option ℤ → ℕ → ℤ → ℤ
rounded_to None s v = v
rounded_to (Some b) zero v = v
rounded_to (Some b) (suc s) v = rounded b v (suc s)

-- the rounded value lies within the bounds
abbrev pub holds_whole : Range ℤ → ℤ → Bool
holds_whole r v = in_bounds r.min r.max (rounded_to (base r.min r.max) (step_of r.step) v)

-- the value itself lies within the bounds
abbrev pub holds_float : Range Scientific → Scientific → Bool
holds_float r v = decimal_in_bounds r.min r.max v

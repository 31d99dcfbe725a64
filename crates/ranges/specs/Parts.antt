-- What the private functions do. No promise of the crate rests on believing this file: proofs/ show that it comes to the rules of Ranges.
use Rattle.std.specs.Prelude.{ℕ, ◌^◌, List, [], ◌∷◌, Bool, true, cond, ℤ, eqb, length, Option, None, Some, option_map}
use Rattle.std.specs.Int.Signed.{le_z}
use denote.Ref.{Bor}
use Rattle.numbers.specs.Step.{limit}
use Rattle.numbers.specs.Decimal.{Scientific, decimal}
use Rattle.numbers.specs.Billionths.{billionths}
use Rattle.numbers.specs.declared.decimals.Decimal.{Decimal}
use Rattle.numbers.specs.Ratio.{decimal_limit}
use Rattle.ranges.specs.declared.Fields.{Fields as Cut}
use Rattle.ranges.specs.Ranges.{Range, fields_of, if_there, positive, le_decimal, FloatBounds, exactly, stepped}

-- the fields of `[min]:[max][:step]`
pub data Fields : Type 0 where
  two : List ℕ → List ℕ → Fields
  three : List ℕ → List ℕ → List ℕ → Fields
  other : Fields

unfoldable pub counted : List (List ℕ) → Fields
counted [] = other
counted (min ∷ []) = other
counted (min ∷ max ∷ []) = two min max
counted (min ∷ max ∷ step ∷ []) = three min max step
counted (min ∷ max ∷ step ∷ more ∷ fs) = other

unfoldable pub fields : List ℕ → Fields
fields s = counted (fields_of s)

-- what the answer of `cut_fields` shows
abbrev pub shown_with : List ℕ → List ℕ → Option (Bor (List ℕ)) → Fields
shown_with min max None = two min max
shown_with min max (Some step) = three min max step.now

abbrev pub shown : Option Cut → Fields
shown None = other
shown (Some f) = shown_with f.min.now f.max.now f.step

abbrev pub whole_limit_of : Option (Option ℕ) → Option (Option ℤ)
whole_limit_of b = option_map (limit (2 ^ 63)) b

abbrev pub exact_limit_of : Option (Option Decimal) → Option (Option Scientific)
exact_limit_of b = option_map decimal_limit b

-- a bound, which may be left out
unfoldable pub bound : {N : Type 0} → (List ℕ → Option N) → List ℕ → Option (Option N)
bound read [] = Some None
bound read (b ∷ s) = option_map Some (read (b ∷ s))

-- the same, of a text and what was read of it
abbrev pub given : {N : Type 0} → List ℕ → Option N → Option (Option N)
given s r = cond (eqb (length s) 0) (Some None) (option_map Some r)

-- min not above max, where both are there
abbrev pub ordered : {N : Type 0} → (N → N → Bool) → Option N → Option N → Bool
ordered le min max = if_there min (λ a. if_there max (λ b. le a b))

abbrev pub within : {N : Type 0} → (N → N → Bool) → Option (Option N) → Option (Option N) → Option N → Option (Range N)
within le None max step = None
within le (Some min) None step = None
within le (Some min) (Some max) step = cond (ordered le min max) (Some (record { min = min; max = max; step = step })) None

-- a step, which is above 0
abbrev pub keep : {N : Type 0} → (N → Bool) → Option N → Option N
keep above None = None
keep above (Some n) = cond (above n) (Some n) None

abbrev pub with_step : {N : Type 0} → (N → N → Bool) → Option (Option N) → Option (Option N) → Option N → Option (Range N)
with_step le min max None = None
with_step le min max (Some step) = within le min max (Some step)

-- the range that the fields write
unfoldable pub from_fields : {N : Type 0} → (List ℕ → Option N) → (N → N → Bool) → (N → Bool) → Fields → Option (Range N)
unfolding bound
from_fields read le above (two min max) = within le (bound read min) (bound read max) None
from_fields read le above (three min max step) = with_step le (bound read min) (bound read max) (keep above (read step))
from_fields read le above other = None

-- the bounds of a float that the fields write
abbrev pub float_fields : Fields → Option FloatBounds
float_fields (two min max) = option_map exactly (from_fields decimal le_decimal (λ step. true) (two min max))
float_fields (three min max step) = option_map stepped (from_fields billionths le_z positive (three min max step))
float_fields other = None

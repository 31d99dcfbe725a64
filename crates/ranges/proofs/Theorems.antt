-- What this crate promises beyond its contracts.
use Rattle.std.specs.Prelude.{None, Some}
use Prim.Native.Nat.{ℕ}
use Prim.Native.String.{String}
use mathlib.Core.Path.{◌≡◌, refl}
use mathlib.Core.Logic.{◌↔◌, ◌⊎◌}
use mathlib.Core.List.{List, [], ◌∷◌}
use mathlib.Core.Bool.{Bool, true, false}
use lib.IntN.{ℤ, pos}
use lib.Signed.{le_z}
use Rattle.abnf.specs.Abnf.{◌∈◌}
use Rattle.abnf.specs.Accepts.{is_empty, again, starts, accepts}
use Rattle.text.specs.Ascii.{ascii}
use Rattle.text.specs.Split.{onto, split}
use Rattle.numbers.specs.Digits.{digits, numeral}
use Rattle.numbers.specs.Grammar.{integer-text, float-text, fixed-text}
use Rattle.numbers.specs.Integer.{value, is_64_bit, integer}
use Rattle.numbers.specs.Step.{rounded, steps, in_range}
use Rattle.numbers.specs.Decimal.{Scientific, before, after, significant, fraction, power, scientific, is_small, decimal}
use Rattle.numbers.specs.Billionths.{in_billionths, billionths}
use Rattle.ranges.specs.Ranges.{Range, is_some, each_read, range_of, positive, le_decimal, exactly, stepped, has_step, integer_range, float_range, is_integer, is_float}
use Rattle.ranges.specs.Promises.{IsRange, holds_whole, holds_float}
use Rattle.ranges.proofs.Words.{integer_range_lem, exact_range_lem, stepped_range}
use Rattle.ranges.proofs.Payloads.{integers_are, floats_are}

-- ---- formats: "integer and float `[min]:[max][:step]`, each number of the property's own type [..]; min not above max, step above 0", and no others

pub integer_formats : (s : List ℕ) (r : Range ℤ) → (integer_range s ≡ Some r) ↔ IsRange integer-text value (λ t. is_64_bit (value t)) le_z positive s r
integer_formats = integer_range_lem

pub float_formats : (s : List ℕ) (r : Range Scientific) → (float_range s ≡ Some (exactly r)) ↔ ((has_step s ≡ false) × IsRange float-text scientific is_small le_decimal (λ step. true) s r)
float_formats = exact_range_lem

-- K7: with a step, in whole billionths
pub stepped_formats : (s : List ℕ) (r : Range ℤ) → (float_range s ≡ Some (stepped r)) ↔ ((has_step s ≡ true) × IsRange fixed-text in_billionths (λ t. true) le_z positive s r)
stepped_formats = stepped_range

-- `::5` is a format; `1:2:`, the empty string, `5:1` and `::0` are none
pub step_alone : integer_range (0x3A ∷ 0x3A ∷ 0x35 ∷ []) ≡ Some (record { min = None; max = None; step = Some (pos 5) })
unfolding integer_range range_of each_read split onto integer value numeral digits accepts starts again is_empty
step_alone = refl

pub step-due : integer_range (0x31 ∷ 0x3A ∷ 0x32 ∷ 0x3A ∷ []) ≡ None
unfolding integer_range range_of each_read split onto integer value numeral digits accepts starts again is_empty
step-due = refl

pub no-colon : integer_range [] ≡ None
unfolding integer_range range_of each_read split onto integer value numeral digits accepts starts again is_empty
no-colon = refl

pub turned : integer_range (0x35 ∷ 0x3A ∷ 0x31 ∷ []) ≡ None
unfolding integer_range range_of each_read split onto integer value numeral digits accepts starts again is_empty
turned = refl

pub step_0 : integer_range (0x3A ∷ 0x3A ∷ 0x30 ∷ []) ≡ None
unfolding integer_range range_of each_read split onto integer value numeral digits accepts starts again is_empty
step_0 = refl

-- K7: with a step no number has an exponent, ten whole digits or ten after a dot; without one each may
abbrev taken : String → Bool
taken f = is_some (float_range (ascii f))

pub shapes : (taken "0:1e3:1" ≡ false) × (taken "0:1e3" ≡ true) × (taken "0:1000000000:1" ≡ false) × (taken "0:1000000000" ≡ true) × (taken ":0.1234567891:1" ≡ false) × (taken "0:1:0.123456789" ≡ true)
unfolding float_range range_of each_read split onto billionths in_billionths decimal significant fraction power before after numeral digits accepts starts again is_empty
shapes = (refl, refl, refl, refl, refl, refl)

-- ---- payloads

-- "the rounded value is held against min and max": exactly the texts of 64-bit integers whose rounded value lies within the bounds
pub integers : (format s : List ℕ) → (is_integer format s ≡ true) ↔ ((r : Range ℤ) × (integer_range format ≡ Some r) × (s ∈ integer-text) × (is_64_bit (value s) ≡ true) × (holds_whole r (value s) ≡ true))
integers = integers_are

-- "Floats are held against min and max unrounded"; with a step (K7) their billionths are rounded as integers are
pub floats : (format s : List ℕ) → (is_float format s ≡ true) ↔ (((r : Range Scientific) × (float_range format ≡ Some (exactly r)) × (s ∈ float-text) × (is_small s ≡ true) × (holds_float r (scientific s) ≡ true))
    ⊎ ((r : Range ℤ) × (float_range format ≡ Some (stepped r)) × (s ∈ fixed-text) × (holds_whole r (in_billionths s) ≡ true)))
floats = floats_are

-- `:10:4`, whose base is max: 8 yes
pub from-max : is_integer (0x3A ∷ 0x31 ∷ 0x30 ∷ 0x3A ∷ 0x34 ∷ []) (0x38 ∷ []) ≡ true
unfolding is_integer integer_range range_of each_read split onto integer value numeral digits accepts starts again is_empty in_range steps rounded
from-max = refl

-- K7, `5:30:0.5`: 30.2 rounds to 30, 30.25 up to 30.5, 4.75 up to 5, 4.7 to 4.5
abbrev thermostat : String → Bool
thermostat s = is_float (ascii "5:30:0.5") (ascii s)

pub rounds : (thermostat "30.2" ≡ true) × (thermostat "30.25" ≡ false) × (thermostat "4.75" ≡ true) × (thermostat "4.7" ≡ false)
unfolding is_float float_range range_of each_read split onto billionths in_billionths significant fraction before after numeral digits accepts starts again is_empty in_range steps rounded
rounds = (refl, refl, refl, refl)

-- with neither min nor max every number of the shape passes
pub unbounded : (is_float (ascii "::0.5") (ascii "123456789.987654321") ≡ true) × (is_float (ascii "::0.5") (ascii "1e2") ≡ false)
unfolding is_float float_range range_of each_read split onto billionths in_billionths significant fraction before after numeral digits accepts starts again is_empty in_range steps rounded
unbounded = (refl, refl)

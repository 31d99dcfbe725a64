-- Paper 01, "Payloads of properties", with paper 02, K7: formats of integers and floats, and the payloads that they let pass.
use Rattle.std.specs.Prelude.{ℕ, List, [], ◌∷◌, Bool, true, false, ◌&&◌, ◌||◌, cond, ltb, length, get_or, ℤ, pos, Option, None, Some, option_map}
use Rattle.std.specs.Int.Signed.{le_z}
use Rattle.abnf.specs.Abnf.{Abnf, ◌·◌, x, opt}
use Rattle.abnf.specs.Accepts.{is_empty, accepts}
use Rattle.text.specs.Split.{split}
use Rattle.numbers.specs.Grammar.{integer-text, float-text, fixed-text}
use Rattle.numbers.specs.Whole.{above_zero}
use Rattle.numbers.specs.Integer.{integer}
use Rattle.numbers.specs.Step.{in_range}
use Rattle.numbers.specs.Decimal.{Scientific, decimal, of_whole}
use Rattle.numbers.specs.Ratio.{ratio, le_q, decimal_in_bounds}
use Rattle.numbers.specs.Billionths.{billionths}

-- a number that is left out is none
pub record Range (N : Type 0) : Type 0 where
  pub min : Option N
  pub max : Option N
  pub step : Option N

-- "integer and float `[min]:[max][:step]`", over the texts of the type's numbers
abbrev pub range-text : Abnf ⊥ → Abnf ⊥
range-text number = opt number · x 0x3A · opt number · opt (x 0x3A · number)

-- what stands between the colons, and the numbers as they are read
abbrev pub fields_of : List ℕ → List (List ℕ)
fields_of s = split 0x3A s

abbrev pub numbers_of : {N : Type 0} → (List ℕ → Option N) → List (List ℕ) → Range N
numbers_of read fs = record { min = read (get_or fs 0 []); max = read (get_or fs 1 []); step = read (get_or fs 2 []) }

-- "each number of the property's own type": a field is left out, or is read as one
abbrev pub is_some : {N : Type 0} → Option N → Bool
is_some None = false
is_some (Some n) = true

unfoldable pub each_read : {N : Type 0} → (List ℕ → Option N) → List (List ℕ) → Bool
each_read read [] = true
each_read read (f ∷ fs) = (is_empty f || is_some (read f)) && each_read read fs

-- "min not above max, step above 0", of those that are there
abbrev pub if_there : {N : Type 0} → Option N → (N → Bool) → Bool
if_there None rule = true
if_there (Some n) rule = rule n

abbrev pub valid : {N : Type 0} → (N → N → Bool) → (N → Bool) → Range N → Bool
valid le above r = if_there r.min (λ min. if_there r.max (λ max. le min max)) && if_there r.step above

-- the range of a format, for a type's texts of numbers and how they are read, ordered and told to be above 0
unfoldable pub range_of : {N : Type 0} → Abnf ⊥ → (List ℕ → Option N) → (N → N → Bool) → (N → Bool) → List ℕ → Option (Range N)
unfolding accepts split each_read
range_of number read le above s =
    cond (accepts (range-text number) s && (each_read read (fields_of s) && valid le above (numbers_of read (fields_of s))))
    (Some (numbers_of read (fields_of s))) None

abbrev pub positive : ℤ → Bool
positive z = le_z (pos 1) z

abbrev pub le_decimal : Scientific → Scientific → Bool
le_decimal a b = le_q (ratio a) (ratio b)

unfoldable pub integer_range : List ℕ → Option (Range ℤ)
unfolding range_of integer
integer_range s = range_of integer-text integer le_z positive s

-- a float's format: a range of exact decimals, or with a step one of whole billionths
pub data FloatBounds : Type 0 where
  exactly : Range Scientific → FloatBounds
  stepped : Range ℤ → FloatBounds

abbrev pub has_step : List ℕ → Bool
has_step s = ltb 2 (length (fields_of s))

-- Paper 02, K7: "A float format with a step may have no exponent and at most nine whole digits and nine after a dot in any of its numbers"
unfoldable pub float_range : List ℕ → Option FloatBounds
unfolding range_of decimal billionths
float_range s =
    cond (has_step s) (option_map stepped (range_of fixed-text billionths le_z positive s))
    (option_map exactly (range_of float-text decimal le_decimal (λ step. true) s))

-- "Integer with step s: ..": the rule of crate numbers, where 0 is no step
abbrev pub step_of : Option ℤ → ℕ
step_of None = 0
step_of (Some z) = above_zero z

abbrev pub whole_in_range : Option (Range ℤ) → Option ℤ → Bool
whole_in_range None v = false
whole_in_range (Some r) None = false
whole_in_range (Some r) (Some v) = in_range r.min r.max (step_of r.step) v

-- "Floats are held against min and max unrounded."
abbrev pub decimal_in_range : Option (Range Scientific) → Option Scientific → Bool
decimal_in_range None v = false
decimal_in_range (Some r) None = false
decimal_in_range (Some r) (Some v) = decimal_in_bounds r.min r.max v

-- With a step K7: "Apply the integer rounding rule to floats, exactly, ties upward", "and the same holds for payloads of such a property"
abbrev pub float_in_range : Option FloatBounds → List ℕ → Bool
float_in_range None s = false
float_in_range (Some (exactly r)) s = decimal_in_range (Some r) (decimal s)
float_in_range (Some (stepped r)) s = whole_in_range (Some r) (billionths s)

-- an integer or a float of a format
unfoldable pub is_integer : List ℕ → List ℕ → Bool
unfolding integer_range in_range
is_integer format s = whole_in_range (integer_range format) (integer s)

unfoldable pub is_float : List ℕ → List ℕ → Bool
unfolding float_range decimal_in_bounds in_range
is_float format s = float_in_range (float_range format) s

-- for "color: .. three of 0 to 255 .. ends included": a float from 0 to a whole number
unfoldable pub is_float_up_to : ℕ → List ℕ → Bool
unfolding decimal decimal_in_bounds
is_float_up_to most s = elim (decimal s) [ None ↦ false | Some v ↦ decimal_in_bounds (Some (of_whole 0)) (Some (of_whole most)) v ]

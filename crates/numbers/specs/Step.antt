-- Rounding to a step, over the whole numbers.
use Rattle.std.specs.Prelude.{ℕ, zero, suc, ◌*◌, ◌/◌, Bool, true, ◌&&◌, ℤ, pos, negsuc, ◌+ℤ◌, ◌-ℤ◌, ◌*ℤ◌, Option, None, Some, option_map}
use Rattle.std.specs.Int.Signed.{le_z}
use Rattle.std.specs.Int.NonZero.{non_zero_u64_get}
use Rattle.std.specs.declared.num.NonZeroU64.{NonZeroU64}
use Rattle.numbers.specs.Whole.{stands}

-- the quotient rounded down; -(n+1) lies in the step below that of n
abbrev pub floor_div : ℤ → ℕ → ℤ
floor_div (pos n) m = pos (n / m)
floor_div (negsuc n) m = negsuc (n / m)

-- Paper 01, "Payloads of properties": "Rounded = b + s·floor((2(v-b)+s)/(2s)), over whole numbers, ties upward"
unfoldable pub rounded : ℤ → ℤ → ℕ → ℤ
rounded b v s = b +ℤ pos s *ℤ floor_div (pos 2 *ℤ (v -ℤ b) +ℤ pos s) (2 * s)

-- held against min and max, where there are any
abbrev pub not_below : Option ℤ → ℤ → Bool
not_below None z = true
not_below (Some min) z = le_z min z

abbrev pub not_above : Option ℤ → ℤ → Bool
not_above None z = true
not_above (Some max) z = le_z z max

abbrev pub in_bounds : Option ℤ → Option ℤ → ℤ → Bool
in_bounds min max z = not_below min z && not_above max z

-- "base b is min, else max"
abbrev pub base : Option ℤ → Option ℤ → Option ℤ
base (Some min) max = Some min
base None max = max

-- "the rounded value is held against min and max, .. With neither min nor max every integer passes."
unfoldable pub steps : Option ℤ → Option ℤ → Option ℤ → ℕ → ℤ → Bool
steps (Some b) min max s v = in_bounds min max (rounded b v s)
steps None min max s v = true

-- a number in a range: step 0 is no step
unfoldable pub in_range : Option ℤ → Option ℤ → ℕ → ℤ → Bool
in_range min max zero v = in_bounds min max v
in_range min max (suc s) v = steps (base min max) min max (suc s) v

-- a step of the code
abbrev pub size : Option NonZeroU64 → ℕ
size None = 0
size (Some s) = non_zero_u64_get s

-- a bound of the code, whose numbers n stand for n - bias
abbrev pub limit : ℕ → Option ℕ → Option ℤ
limit bias b = option_map (stands bias) b

-- What the answers of `integer_range` and `float_range` say.
use Rattle.std.specs.Prelude.{ℕ, ◌^◌, ℤ, pos, Option, None, option_map}
use Rattle.std.specs.Int.NonZero.{non_zero_u64_get}
use Rattle.std.specs.declared.num.NonZeroU64.{NonZeroU64}
use Rattle.numbers.specs.Step.{limit}
use Rattle.numbers.specs.Decimal.{Scientific}
use Rattle.numbers.specs.Ratio.{decimal_limit}
use Rattle.numbers.specs.declared.decimals.Decimal.{Decimal}
use Rattle.ranges.specs.declared.WholeRange.{WholeRange}
use Rattle.ranges.specs.declared.FloatRange.{FloatRange}
use Rattle.ranges.specs.declared.FloatRange.TheVariants.{Exact, Stepped}
use Rattle.ranges.specs.Ranges.{Range, FloatBounds, exactly, stepped}

-- a step of the code
abbrev pub step_read : Option NonZeroU64 → Option ℤ
step_read step = option_map (λ (n : NonZeroU64). pos (non_zero_u64_get n)) step

-- whole numbers of the code: n stands for n - 2^63
abbrev pub whole_range : Option ℕ → Option ℕ → Option NonZeroU64 → Range ℤ
whole_range min max step = record { min = limit (2 ^ 63) min; max = limit (2 ^ 63) max; step = step_read step }

-- the range that the code has read from the format of an integer
abbrev pub whole_bounds : WholeRange → Range ℤ
whole_bounds r = whole_range r.min r.max r.step

abbrev pub whole_range_of : Option WholeRange → Option (Range ℤ)
whole_range_of r = option_map whole_bounds r

abbrev pub exact_range : Option Decimal → Option Decimal → Range Scientific
exact_range min max = record { min = decimal_limit min; max = decimal_limit max; step = None }

-- the range that the code has read from the format of a float: billionths where it has a step, else exact decimals
abbrev pub float_bounds : FloatRange → FloatBounds
float_bounds (Exact min max) = exactly (exact_range min max)
float_bounds (Stepped r) = stepped (whole_bounds r)

abbrev pub float_range_of : Option FloatRange → Option FloatBounds
float_range_of r = option_map float_bounds r

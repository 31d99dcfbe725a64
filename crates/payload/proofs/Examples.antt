-- The paper's examples with a star, by computation.
use mathlib.Core.Path.{◌≡◌, refl}
use mathlib.Core.Bool.{true}
use Rattle.abnf.specs.Accepts.{accepts, starts, again, is_empty}
use Rattle.text.specs.Bytes.{eq_bytes, every}
use Rattle.text.specs.Split.{split, onto}
use Rattle.text.specs.Ids.{is_id, id_byte}
use Rattle.numbers.specs.Digits.{digits, numeral}
use Rattle.numbers.specs.Integer.{value, integer}
use Rattle.numbers.specs.Step.{rounded, steps, in_range}
use Rattle.numbers.specs.Decimal.{before, after, significant, fraction, power, decimal}
use Rattle.numbers.specs.Ratio.{decimal_in_bounds}
use Rattle.times.specs.Datetime.{is_datetime}
use Rattle.times.specs.Duration.{is_duration}
use Rattle.entries.specs.Entries.{is_in, none_empty, no_repeats, is_list, all_in}
use Rattle.ranges.specs.Ranges.{each_read, range_of, integer_range, float_range, is_integer, is_float, is_float_up_to}
use Rattle.payload.specs.Colors.{is_color}
use Rattle.payload.specs.Payloads.{is_payload}
use Rattle.payload.specs.Examples.{examples, all}

pub examples_hold : all examples ≡ true
unfolding is_payload is_color is_datetime is_duration is_integer is_float is_float_up_to integer_range float_range range_of each_read is_list all_in is_in none_empty no_repeats
    decimal_in_bounds decimal before after significant fraction power rounded steps in_range value integer digits numeral is_id id_byte split onto eq_bytes every accepts starts again is_empty
examples_hold = refl

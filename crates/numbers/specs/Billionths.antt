-- Paper 02, K7: numbers of a float property that has a step.
use Rattle.std.specs.Prelude.{ℕ, ◌-◌, ◌*◌, ◌^◌, List, cond, length, ℤ, Option, None, Some}
use Rattle.numbers.specs.declared.decimals.DecimalRead.{DecimalRead}
use Rattle.abnf.specs.Accepts.{accepts}
use Rattle.numbers.specs.Digits.{number}
use Rattle.numbers.specs.Grammar.{fixed-text}
use Rattle.numbers.specs.Whole.{signed, minus}
use Rattle.numbers.specs.Decimal.{significant, fraction}

-- the digits of a text of the shape, nine behind the dot
unfoldable pub in_billionths : List ℕ → ℤ
in_billionths s = signed (minus s) (number (significant s) * 10 ^ (9 - length (fraction s)))

-- "whether a number has this shape and what it is in whole billionths"
unfoldable pub billionths : List ℕ → Option ℤ
billionths s = cond (accepts fixed-text s) (Some (in_billionths s)) None

-- what the answer of `read_decimal` says of them: m · 10^(e - 300) is m · 10^(e - 291) billionths
abbrev pub billionths_read : Option DecimalRead → Option ℤ
billionths_read None = None
billionths_read (Some d) = cond d.fixed (Some (signed d.value.negative (d.value.mantissa * 10 ^ (d.value.exponent - 291)))) None

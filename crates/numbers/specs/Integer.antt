-- The integer that a text writes.
use Rattle.std.specs.Prelude.{ℕ, ◌-◌, ◌^◌, List, Bool, cond, ◌&&◌, ℤ, pos, neg_ℤ, Option, None, Some, option_map}
use Rattle.abnf.specs.Accepts.{accepts}
use Rattle.numbers.specs.Digits.{digits, number}
use Rattle.numbers.specs.Grammar.{integer-text}
use Rattle.numbers.specs.Whole.{signed, minus, between, stands}

unfoldable pub value : List ℕ → ℤ
value s = signed (minus s) (number (digits s))

-- Paper 01, "Payloads of properties": "value from -2^63 to 2^63-1"
abbrev pub is_64_bit : ℤ → Bool
is_64_bit z = between (neg_ℤ (pos (2 ^ 63))) (pos (2 ^ 63 - 1)) z

-- "integer: optional `-`, then digits, leading zeros allowed; value from -2^63 to 2^63-1"
unfoldable pub integer : List ℕ → Option ℤ
integer s = cond (accepts integer-text s && is_64_bit (value s)) (Some (value s)) None

-- what the answer of `read_integer` says: n stands for n - 2^63
abbrev pub integer_read : Option ℕ → Option ℤ
integer_read r = option_map (stands (2 ^ 63)) r

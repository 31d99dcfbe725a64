-- Decimals as fractions, and the order of fractions. Paper 01, "Payloads of properties": "Comparisons are of exact decimals."
use Rattle.std.specs.Prelude.{ℕ, suc, ◌*◌, ◌^◌, ◌≡◌, Bool, true, ◌&&◌, ℤ, pos, negsuc, ◌*ℤ◌, Option, None, Some, option_map}
use Rattle.std.specs.Int.Signed.{le_z}
use Rattle.numbers.specs.declared.decimals.Decimal.{Decimal}
use Rattle.numbers.specs.Whole.{signed}
use Rattle.numbers.specs.Decimal.{Scientific, exact}

-- numerator / denominator; denominators here are powers of ten, so never 0
pub record Ratio : Type 0 where
  pub numerator : ℤ
  pub denominator : ℕ

-- m·10^n is m·10^n / 1, and m·10^-n is m / 10^n
abbrev pub scaled : Bool → ℕ → ℤ → Ratio
scaled neg m (pos n) = record { numerator = signed neg (m * 10 ^ n); denominator = 1 }
scaled neg m (negsuc n) = record { numerator = signed neg m; denominator = 10 ^ suc n }

abbrev pub ratio : Scientific → Ratio
ratio d = scaled d.negative d.mantissa d.exponent

-- p/q ≤ r/s where p·s ≤ r·q
abbrev pub le_q : Ratio → Ratio → Bool
le_q a b = le_z (a.numerator *ℤ pos b.denominator) (b.numerator *ℤ pos a.denominator)

-- p/q = r/s where p·s = r·q
abbrev pub SameQ : Ratio → Ratio → Type 0
SameQ a b = a.numerator *ℤ pos b.denominator ≡ b.numerator *ℤ pos a.denominator

-- "Floats are held against min and max unrounded."
abbrev pub not_less : Option Scientific → Scientific → Bool
not_less None d = true
not_less (Some min) d = le_q (ratio min) (ratio d)

abbrev pub not_more : Option Scientific → Scientific → Bool
not_more None d = true
not_more (Some max) d = le_q (ratio d) (ratio max)

unfoldable pub decimal_in_bounds : Option Scientific → Option Scientific → Scientific → Bool
decimal_in_bounds min max d = not_less min d && not_more max d

-- a bound of the code
abbrev pub decimal_limit : Option Decimal → Option Scientific
decimal_limit b = option_map exact b

-- The exact decimal that a text writes.
use Rattle.std.specs.Prelude.{ℕ, List, [], ◌∷◌, Bool, false, cond, ◌&&◌, ◌||◌, leb, eqb, length, ℤ, pos, neg_ℤ, ◌-ℤ◌, Option, None, Some, option_map}
use Rattle.numbers.specs.declared.decimals.Decimal.{Decimal}
use Rattle.numbers.specs.declared.decimals.DecimalRead.{DecimalRead}
use Rattle.abnf.specs.Accepts.{accepts}
use Rattle.numbers.specs.Digits.{digits, number}
use Rattle.numbers.specs.Grammar.{float-text}
use Rattle.numbers.specs.Whole.{signed, minus, between, stands}

-- mantissa · 10^exponent, or that below zero
pub record Scientific : Type 0 where
  pub negative : Bool
  pub mantissa : ℕ
  pub exponent : ℤ

-- a text before and after its first byte of a kind; nothing is after it where there is none
unfoldable pub before : (ℕ → Bool) → List ℕ → List ℕ
before p [] = []
before p (b ∷ s) = cond (p b) [] (b ∷ before p s)

unfoldable pub after : (ℕ → Bool) → List ℕ → List ℕ
after p [] = []
after p (b ∷ s) = cond (p b) s (after p s)

abbrev pub is_dot : ℕ → Bool
is_dot b = eqb b 46

abbrev pub is_e : ℕ → Bool
is_e b = eqb b 101 || eqb b 69

-- the digits before the exponent, those of them behind the dot, and the exponent
unfoldable pub significant : List ℕ → List ℕ
significant s = digits (before is_e s)

unfoldable pub fraction : List ℕ → List ℕ
fraction s = digits (after is_dot (before is_e s))

unfoldable pub power : List ℕ → ℤ
power s = signed (minus (after is_e s)) (number (digits (after is_e s)))

abbrev pub scientific : List ℕ → Scientific
scientific s = record { negative = minus s; mantissa = number (significant s); exponent = power s -ℤ pos (length (fraction s)) }

-- Paper 01, "Payloads of properties": "at most 18 digits before the exponent, exponent from -280 to 280"
abbrev pub is_small : List ℕ → Bool
is_small s = leb (length (significant s)) 18 && between (neg_ℤ (pos 280)) (pos 280) (power s)

-- "float: optional `-`, digits, optionally `.` and digits, .."
unfoldable pub decimal : List ℕ → Option Scientific
decimal s = cond (accepts float-text s && is_small s) (Some (scientific s)) None

-- what a `Decimal` of the code stands for: its exponent n is n - 300
abbrev pub exact : Decimal → Scientific
exact d = record { negative = d.negative; mantissa = d.mantissa; exponent = stands 300 d.exponent }

-- a whole number
abbrev pub of_whole : ℕ → Scientific
of_whole n = record { negative = false; mantissa = n; exponent = pos 0 }

-- what the answer of `read_decimal` says
abbrev pub decimal_read : Option DecimalRead → Option Scientific
decimal_read r = option_map (λ (d : DecimalRead). exact d.value) r

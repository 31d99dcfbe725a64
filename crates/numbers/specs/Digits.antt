-- Decimal digits, and the number that they write.
use Rattle.std.specs.Prelude.{ℕ, ◌+◌, ◌-◌, ◌*◌, List, [], ◌∷◌, Bool, cond}
use Rattle.abnf.specs.Accepts.{in_range}

abbrev pub is_digit : ℕ → Bool
is_digit b = in_range 48 57 b

-- the digits of a text, in order
unfoldable pub digits : List ℕ → List ℕ
digits [] = []
digits (b ∷ s) = cond (is_digit b) (b ∷ digits s) (digits s)

-- the number that digits write, the highest first, after digits that write a
unfoldable pub numeral : ℕ → List ℕ → ℕ
numeral a [] = a
numeral a (d ∷ ds) = numeral (a * 10 + (d - 48)) ds

abbrev pub number : List ℕ → ℕ
number ds = numeral 0 ds

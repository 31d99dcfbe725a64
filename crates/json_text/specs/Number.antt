-- JSON's numbers (RFC 8259, 6): [ minus ] int [ frac ] [ exp ].
use Rattle.std.specs.Prelude.{ℕ, ◌+◌, List, Bool, true, false, ◌||◌, eqb, Err, Ok, Result}
use Rattle.abnf.specs.Accepts.{in_range}
use Rattle.json_text.specs.Bytes.{byte, past, and_then}

unfoldable pub is_digit : ℕ → Bool
is_digit b = in_range 48 57 b

-- past the digits at `at`, of which there may be none
unfoldable pub digits_end : List ℕ → ℕ → ℕ
digits_end s at = past is_digit s at

-- past one byte if it passes the test
unfoldable pub optional : (ℕ → Bool) → List ℕ → ℕ → ℕ
optional p s at = elim (p (byte s at)) [ true ↦ at + 1 | false ↦ at ]

unfoldable pub is_minus : ℕ → Bool
is_minus b = eqb b 45

unfoldable pub is_sign : ℕ → Bool
is_sign b = eqb b 43 || eqb b 45

-- 1*DIGIT
unfoldable pub some_digits : List ℕ → ℕ → Result ℕ ℕ
some_digits s at = elim (is_digit (byte s at)) [ true ↦ Ok (digits_end s (at + 1)) | false ↦ Err at ]

-- int = zero / ( digit1-9 *DIGIT )
unfoldable pub int_at : List ℕ → ℕ → Result ℕ ℕ
int_at s at = elim (eqb (byte s at) 48) [ true ↦ Ok (at + 1) | false ↦ some_digits s at ]

-- [ frac ], frac = decimal-point 1*DIGIT
unfoldable pub frac_at : List ℕ → ℕ → Result ℕ ℕ
frac_at s at = elim (eqb (byte s at) 46) [ true ↦ some_digits s (at + 1) | false ↦ Ok at ]

unfoldable pub is_exp : ℕ → Bool
is_exp b = eqb b 69 || eqb b 101

-- [ exp ], exp = e [ minus / plus ] 1*DIGIT
unfoldable pub exp_at : List ℕ → ℕ → Result ℕ ℕ
exp_at s at = elim (is_exp (byte s at)) [ true ↦ some_digits s (optional is_sign s (at + 1)) | false ↦ Ok at ]

unfoldable pub number_at : List ℕ → ℕ → Result ℕ ℕ
number_at s at = and_then (int_at s (optional is_minus s at)) (λ i. and_then (frac_at s i) (λ j. exp_at s j))

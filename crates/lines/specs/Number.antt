-- docs/PROGRAMS.md: "Numbers are decimal digits, of a value below 2^64."
use Rattle.std.specs.Prelude.{ℕ, zero, suc, ◌+◌, ◌/◌, ◌%◌, ◌^◌, List, [], ◌∷◌, ◌++◌, cond, ◌&&◌, ltb, leb, length, Option, None, Some}
use Rattle.text.specs.Bytes.{every}
use Rattle.numbers.specs.Digits.{is_digit, number}

-- Reading: digits alone, one at least, that write a number below 2^64.
unfoldable pub number_of : List ℕ → Option ℕ
number_of w = cond (leb 1 (length w) && (every is_digit w && ltb (number w) (2 ^ 64))) (Some (number w)) None

-- Writing: the digits of a number below 10^k, the highest first, with no leading zero.
unfoldable pub decimal_in : ℕ → ℕ → List ℕ
decimal_in zero n = []
decimal_in (suc k) n = cond (ltb n 10) ((48 + n) ∷ []) (decimal_in k (n / 10) ++ ((48 + n % 10) ∷ []))

-- twenty digits write every number of 64 bits
unfoldable pub decimal_text : ℕ → List ℕ
decimal_text n = decimal_in 20 n

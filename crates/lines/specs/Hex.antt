-- docs/PROGRAMS.md: "bytes are lowercase hex, `-` stands for none".
use Rattle.std.specs.Prelude.{ℕ, ◌+◌, ◌-◌, ◌*◌, ◌/◌, ◌%◌, ◌≡◌, List, [], ◌∷◌, ◌++◌, Bool, true, false, cond, ◌&&◌, ltb, leb, length, drop, Option, None, Some}
use Rattle.abnf.specs.Accepts.{in_range}
use Rattle.text.specs.Ascii.{ascii}
use Rattle.text.specs.Bytes.{eq_bytes}

-- Writing: `0` to `9`, then `a` to `f`; two digits for each byte, the higher first.
unfoldable pub digit_of : ℕ → ℕ
digit_of v = cond (ltb v 10) (48 + v) (87 + v)

unfoldable pub digits_of : List ℕ → List ℕ
digits_of [] = []
digits_of (b ∷ s) = digit_of (b / 16) ∷ (digit_of (b % 16) ∷ digits_of s)

unfoldable pub hex_of : List ℕ → List ℕ
hex_of [] = 45 ∷ []
hex_of (b ∷ s) = digits_of (b ∷ s)

-- Reading: the value of a digit, 16 where a byte is none.
unfoldable pub value_of : ℕ → ℕ
value_of b = cond (in_range 48 57 b) (b - 48) (cond (in_range 97 102 b) (b - 87) 16)

unfoldable pub is_digit : ℕ → Bool
is_digit b = leb (value_of b) 15

-- pairs of digits, and the bytes that they write
unfoldable pub are_pairs : List ℕ → Bool
are_pairs [] = true
are_pairs (a ∷ []) = false
are_pairs (a ∷ (b ∷ s)) = is_digit a && (is_digit b && are_pairs s)

unfoldable pub pairs : List ℕ → List ℕ
pairs [] = []
pairs (a ∷ []) = []
pairs (a ∷ (b ∷ s)) = (value_of a * 16 + value_of b) ∷ pairs s

-- the bytes that a word writes, if it writes any or is `-`
unfoldable pub bytes_of : List ℕ → Option (List ℕ)
bytes_of w = cond (eq_bytes w (ascii "-")) (Some []) (cond (leb 1 (length w) && are_pairs w) (Some (pairs w)) None)

-- Decoding into a buffer: the bytes that a word writes, if they fit, ..
unfoldable pub fitting : ℕ → Option (List ℕ) → Option (List ℕ)
fitting room None = None
fitting room (Some b) = cond (leb (length b) room) (Some b) None

-- .. are counted by the answer, and stand in front in the buffer d; where there are none it stays
unfoldable pub counted : Option (List ℕ) → Option ℕ
counted None = None
counted (Some b) = Some (length b)

unfoldable pub in_front : List ℕ → Option (List ℕ) → List ℕ
in_front d None = d
in_front d (Some b) = b ++ drop (length b) d

pub record Decodes (w d : List ℕ) (r : Option ℕ) (d' : List ℕ) : Type 0 where
  pub answer : r ≡ counted (fitting (length d) (bytes_of w))
  pub memory : d' ≡ in_front d (fitting (length d) (bytes_of w))

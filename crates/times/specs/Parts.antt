-- What the readers inside this crate find, for their contracts.
use Rattle.std.specs.Prelude.{ℕ, zero, suc, ◌+◌, ◌*◌, ◌-◌, List, [], ◌∷◌, Bool, false, not, ◌&&◌, ◌||◌, cond, get_or, drop, length, eqb, leb, Option, Some, None}
use Rattle.abnf.specs.Accepts.{in_range}
use Rattle.times.specs.Datetime.{is_date}

-- the byte at a place; 256, which is no byte, past the end
abbrev pub byte_at : List ℕ → ℕ → ℕ
byte_at s at = get_or s at 256

-- a digit's value
unfoldable pub digit_of : ℕ → Option ℕ
digit_of b = cond (in_range 48 57 b) (Some (b - 48)) None

-- the number of two digits
unfoldable pub pair_of : ℕ → ℕ → Option ℕ
pair_of a b = cond (in_range 48 57 a && in_range 48 57 b) (Some (10 * (a - 48) + (b - 48))) None

abbrev pub pair_at : List ℕ → ℕ → Option ℕ
pair_at s at = pair_of (byte_at s at) (byte_at s (at + 1))

-- there is a number, and it is at most m
abbrev pub at_most : ℕ → Option ℕ → Bool
at_most m None = false
at_most m (Some n) = leb n m

-- how many digits stand at the front, at most n
unfoldable pub digits : ℕ → List ℕ → ℕ
digits zero s = 0
digits (suc n) [] = 0
digits (suc n) (b ∷ s) = cond (in_range 48 57 b) (suc (digits n s)) 0

-- four numbers are there, century, year of it, month and day, and are a date of the calendar; and the hyphens are there
unfoldable pub date_of : Option ℕ → Option ℕ → Option ℕ → Option ℕ → Bool → Bool
unfolding is_date
date_of (Some c) (Some y) (Some m) (Some d) t = t && is_date (100 * c + y) m d
date_of None y m d t = false
date_of (Some c) None m d t = false
date_of (Some c) (Some y) None d t = false
date_of (Some c) (Some y) (Some m) None t = false

-- `YYYY-MM-DD` at the front, and a date of the calendar
unfoldable pub date_at : List ℕ → Bool
unfolding pair_of
date_at s = date_of (pair_at s 0) (pair_at s 2) (pair_at s 5) (pair_at s 8) (eqb (byte_at s 4) 45 && eqb (byte_at s 7) 45)

-- `HH:MM` at a place
unfoldable pub is_clock : List ℕ → ℕ → Bool
unfolding pair_of
is_clock s at = at_most 23 (pair_at s at) && (eqb (byte_at s (at + 2)) 58 && at_most 59 (pair_at s (at + 3)))

-- `THH:MM:SS` after the date
unfoldable pub time_at : List ℕ → Bool
unfolding is_clock
time_at s = eqb (byte_at s 10) 84 && (is_clock s 11 && (eqb (byte_at s 16) 58 && at_most 59 (pair_at s 17)))

unfoldable pub is_sign : ℕ → Bool
is_sign b = eqb b 43 || eqb b 45

-- nothing, or `Z`, or sign `HH:MM`, and then the end
unfoldable pub zone_at : List ℕ → ℕ → Bool
unfolding is_clock is_sign
zone_at s at =
    leb (length s) at
    || (cond (eqb (byte_at s at) 90) (leb (length s) (at + 1))
    (is_sign (byte_at s at) && (is_clock s (at + 1) && leb (length s) (at + 6))))

-- what may stand after the seconds
unfoldable pub ending_at : List ℕ → Bool
unfolding zone_at digits
ending_at s = cond (eqb (byte_at s 19) 46) (not (eqb (digits 9 (drop 20 s)) 0) && zone_at s (20 + digits 9 (drop 20 s))) (zone_at s 19)

-- past 1 to 9 digits and the letter, or the place itself
unfoldable pub span_end : List ℕ → ℕ → ℕ → ℕ
unfolding digits
span_end s at letter = cond (not (eqb (digits 9 (drop at s)) 0) && eqb (byte_at s (at + digits 9 (drop at s))) letter) (at + digits 9 (drop at s) + 1) at

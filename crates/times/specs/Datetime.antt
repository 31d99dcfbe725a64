-- Paper 01, "Payloads of properties": "datetime (our profile of ISO 8601)".
use Rattle.std.specs.Prelude.{ℕ, ◌+◌, ◌*◌, ◌-◌, ◌%◌, List, [], ◌∷◌, Bool, not, ◌&&◌, ◌||◌, cond, take, drop, eqb, leb}
use Rattle.abnf.specs.Abnf.{Abnf, ◌–◌, ◌·◌, ◌//◌, x, opt, times, repeat}
use Rattle.abnf.specs.Accepts.{accepts}

abbrev pub DIGIT : Abnf ⊥
DIGIT = 48 – 57

-- "hour to 23": 00 to 19, 20 to 23
abbrev pub hour : Abnf ⊥
hour = 48 – 49 · DIGIT // x 50 · 48 – 51

-- "minute and second to 59"
abbrev pub sixtieth : Abnf ⊥
sixtieth = 48 – 53 · DIGIT

-- `YYYY-MM-DD`
abbrev pub date : Abnf ⊥
date = times 4 DIGIT · x 45 · times 2 DIGIT · x 45 · times 2 DIGIT

-- `HH:MM`
abbrev pub clock : Abnf ⊥
clock = hour · x 58 · sixtieth

-- "optional `.` and 1 to 9 digits"
abbrev pub fraction : Abnf ⊥
fraction = x 46 · repeat 1 9 DIGIT

-- "`Z` or sign `HH:MM`", "the offset's hour and minute likewise"
abbrev pub zone : Abnf ⊥
zone = x 90 // (x 43 // x 45) · clock

-- `YYYY-MM-DDTHH:MM:SS`, optional fraction, optional zone
abbrev pub datetime : Abnf ⊥
datetime = date · x 84 · clock · x 58 · sixtieth · opt fraction · opt zone

-- the number that digits write
unfoldable pub number_from : ℕ → List ℕ → ℕ
number_from n [] = n
number_from n (b ∷ s) = number_from (10 * n + (b - 48)) s

abbrev pub number : List ℕ → ℕ
number s = number_from 0 s

-- "Gregorian dates of years 0000 to 9999": a leap year is one that 4 divides, and 100 does not, unless 400 does
unfoldable pub is_leap : ℕ → Bool
is_leap year = eqb (year % 4) 0 && (not (eqb (year % 100) 0) || eqb (year % 400) 0)

-- April, June, September and November
unfoldable pub has_thirty_days : ℕ → Bool
has_thirty_days month = eqb month 4 || (eqb month 6 || (eqb month 9 || eqb month 11))

-- Paper 02, K10, "Month lengths by rule": February has 28 days, 29 in a leap year; of the other months four have 30, the rest 31
unfoldable pub month_length : ℕ → ℕ → ℕ
unfolding is_leap has_thirty_days
month_length year month = cond (eqb month 2) (cond (is_leap year) 29 28) (cond (has_thirty_days month) 30 31)

unfoldable pub is_date : ℕ → ℕ → ℕ → Bool
unfolding month_length
is_date year month day = (leb 1 month && leb month 12) && (leb 1 day && leb day (month_length year month))

unfoldable pub is_datetime : List ℕ → Bool
unfolding is_date accepts number_from
is_datetime s = accepts datetime s && is_date (number (take 4 s)) (number (take 2 (drop 5 s))) (number (take 2 (drop 8 s)))

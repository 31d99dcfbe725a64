-- What the theorem on month lengths says, in the words of the calendar.
use Rattle.std.specs.Prelude.{ℕ, ◌≤◌, ◌≡◌, ◌↔◌, ◌⊎◌}
use Rattle.std.specs.Int.{◌∣◌}
use Rattle.times.specs.Datetime.{month_length}

-- 4 divides it, and 100 does not, unless 400 does
abbrev pub LeapYear : ℕ → Type 0
LeapYear year = (4 ∣ year) × ((100 ∣ year → ⊥) ⊎ (400 ∣ year))

-- April, June, September and November
abbrev pub Thirty : ℕ → Type 0
Thirty month = (month ≡ 4) ⊎ ((month ≡ 6) ⊎ ((month ≡ 9) ⊎ (month ≡ 11)))

-- Paper 02, K10: what "it gives" for every month of a year
pub record MonthLengths (year : ℕ) : Type 0 where
  -- "30 for April, June, September and November"
  pub thirty : (month : ℕ) → Thirty month → month_length year month ≡ 30
  -- "29 or 28 for February"
  pub february : (month_length year 2 ≡ 29) ⊎ (month_length year 2 ≡ 28)
  -- "29 exactly in leap years"
  pub leap : (month_length year 2 ≡ 29) ↔ LeapYear year
  -- "and else 31"
  pub other : (month : ℕ) → 1 ≤ month → month ≤ 12 → (month ≡ 2 → ⊥) → (Thirty month → ⊥) → month_length year month ≡ 31

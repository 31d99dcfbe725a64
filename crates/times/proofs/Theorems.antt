-- What the crate promises: the tests hold exactly for the words of the grammars, datetimes of the calendar; months have the calendar's lengths.
use Prim.Native.Nat.{ℕ}
use mathlib.Core.Path.{◌≡◌, sym}
use mathlib.Core.List.{List}
use mathlib.Core.Bool.{Bool, true, ◌&&◌}
use mathlib.Core.Logic.{◌↔◌}
use lib.ListN.{take, drop}
use Rattle.abnf.specs.Abnf.{◌∈◌}
use Rattle.abnf.specs.Accepts.{accepts}
use Rattle.abnf.proofs.Accepts.{and_both}
use Rattle.abnf.proofs.Theorems.{accepts_is}
use Rattle.times.specs.Datetime.{datetime, number, is_date, is_datetime}
use Rattle.times.specs.Calendar.{MonthLengths}
use Rattle.times.specs.Duration.{duration, is_duration}
use Rattle.times.proofs.Dates.{february_is, leap_years, thirty, thirty-one}

both_hold : {a b : Bool} → a ≡ true → b ≡ true → (a && b) ≡ true
both_hold e f = rw e f

pub datetime_is : (s : List ℕ) → (is_datetime s ≡ true) ↔ ((s ∈ datetime) × (is_date (number (take 4 s)) (number (take 2 (drop 5 s))) (number (take 2 (drop 8 s))) ≡ true))
unfolding is_datetime
datetime_is s = (
  λ e. let p = and_both (accepts datetime s) _ e in ((accepts_is datetime s).0 p.0, p.1),
  λ p. both_hold ((accepts_is datetime s).1 p.0) p.1,
)

pub duration_is : (s : List ℕ) → (is_duration s ≡ true) ↔ (s ∈ duration)
unfolding is_duration
duration_is s = accepts_is duration s

-- every month of every year, so of the years 0000 to 9999
pub month_lengths : (year : ℕ) → MonthLengths year
month_lengths year = record {
  thirty = λ month h. sym (thirty year month h);
  february = february_is year;
  leap = leap_years year;
  other = λ month h k two four. sym (thirty-one year month two four);
}

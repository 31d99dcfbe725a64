-- Dates of the calendar.
use Prim.Native.Nat.{ℕ, ◌+◌, ◌*◌, ◌%◌, ◌≤◌, ◌∣◌}
use native.Mathlib.Nat.{mod-eq-zero_of_dvd, dvd_of_mod-eq-zero}
use native.Mathlib.Omega.{arith}
use mathlib.Core.Path.{◌≡◌, refl, sym, ◌∙◌}
use mathlib.Core.Logic.{◌↔◌, ◌⊎◌, inl, inr}
use mathlib.Core.Bool.{Bool, true, false, ◌&&◌, not, ◌||◌, cond, or-true}
use lib.Dec.{eqb}
use borrow.Author.Tests.{eq-eqb, ne_eqb, eqb-true, eqb-false}
use Rattle.abnf.proofs.Accepts.{and_both}
use Rattle.times.specs.Datetime.{is_leap, has_thirty_days, month_length, is_date}
use Rattle.std.specs.Prelude.{List, Some, None}
use Rattle.times.specs.Parts.{byte_at, pair_at, date_of, date_at}
use Rattle.times.specs.Calendar.{LeapYear, Thirty}

module _ (year month : ℕ) where
  pub leap-february : {r : Bool} → month ≡ 2 → r ≡ is_leap year → r ≡ true → 29 ≡ month_length year month
  unfolding month_length
  leap-february h e t = rw (eq-eqb month 2 h, sym e ∙ t)

  pub february : {r : Bool} → month ≡ 2 → r ≡ is_leap year → r ≡ false → 28 ≡ month_length year month
  unfolding month_length
  february h e t = rw (eq-eqb month 2 h, sym e ∙ t)

  pub thirty : Thirty month → 30 ≡ month_length year month
  unfolding month_length has_thirty_days
  thirty (inl e) = rw e
  thirty (inr (inl e)) = rw e
  thirty (inr (inr (inl e))) = rw e
  thirty (inr (inr (inr e))) = rw e

  pub thirty-one : (month ≡ 2 → ⊥) → (Thirty month → ⊥) → 31 ≡ month_length year month
  unfolding month_length has_thirty_days
  thirty-one h k = rw (ne_eqb month 2 h, ne_eqb month 4 (λ e. k (inl e)), ne_eqb month 6 (λ e. k (inr (inl e))), ne_eqb month 9 (λ e. k (inr (inr (inl e)))), ne_eqb month 11 (λ e. k (inr (inr (inr e)))))

  -- no month has 32 days
  pub month-most : month_length year month ≤ 31
  unfolding month_length
  month-most = pick (eqb month 2) (pick (is_leap year) (omega arith) (omega arith)) (pick (has_thirty_days month) (omega arith) (omega arith))
    where
      pick : (t : Bool) {m n : ℕ} → m ≤ 31 → n ≤ 31 → cond t m n ≤ 31
      pick true h k = h
      pick false h k = k

leap_year : (year : ℕ) → is_leap year ≡ true → LeapYear year
unfolding is_leap
leap_year year e = let p = and_both (eqb (year % 4) 0) _ e in (dvd_of_mod-eq-zero 4 (eqb-true (year % 4) 0 p.0), century (eqb (year % 100) 0) refl p.1)
  where
    century : (t : Bool) → eqb (year % 100) 0 ≡ t → (not t || eqb (year % 400) 0) ≡ true → (100 ∣ year → ⊥) ⊎ (400 ∣ year)
    century true q e = inr (dvd_of_mod-eq-zero 400 (eqb-true (year % 400) 0 e))
    century false q e = inl (λ d. eqb-false (year % 100) 0 q (mod-eq-zero_of_dvd 100 d))

is-leap_year : (year : ℕ) → LeapYear year → is_leap year ≡ true
unfolding is_leap
is-leap_year year (four, inl h) = rw (eq-eqb (year % 4) 0 (mod-eq-zero_of_dvd 4 four), ne_eqb (year % 100) 0 (λ e. h (dvd_of_mod-eq-zero 100 e)))
is-leap_year year (four, inr d) = rw (eq-eqb (year % 4) 0 (mod-eq-zero_of_dvd 4 four), eq-eqb (year % 400) 0 (mod-eq-zero_of_dvd 400 d), or-true (not (eqb (year % 100) 0)))

pub february_is : (year : ℕ) → (month_length year 2 ≡ 29) ⊎ (month_length year 2 ≡ 28)
unfolding month_length
february_is year = pick (is_leap year)
  where
    pick : (t : Bool) → (◌≡◌ {A = ℕ} (cond t 29 28) 29) ⊎ (◌≡◌ {A = ℕ} (cond t 29 28) 28)
    pick true = inl refl
    pick false = inr refl

pub leap_years : (year : ℕ) → (month_length year 2 ≡ 29) ↔ LeapYear year
unfolding month_length
leap_years year = (λ e. leap_year year (pick (is_leap year) e), λ h. rw (is-leap_year year h))
  where
    pick : (t : Bool) → ◌≡◌ {A = ℕ} (cond t 29 28) 29 → t ≡ true
    pick true e = refl
    pick false e = absurd (omega arith)

-- the numbers that are there, or not
module _ (s : List ℕ) where
  pub no_century : None ≡ pair_at s 0 → false ≡ date_at s
  unfolding date_at date_of
  no_century e = rw (← e)

  pub no_year : {p : ℕ} → Some p ≡ pair_at s 0 → None ≡ pair_at s 2 → false ≡ date_at s
  unfolding date_at date_of
  no_year e f = rw (← e, ← f)

  module _ {p q : ℕ} (e : Some p ≡ pair_at s 0) (f : Some q ≡ pair_at s 2) where
    pub no_month : None ≡ pair_at s 5 → false ≡ date_at s
    unfolding date_at date_of
    no_month g = rw (← e, ← f, ← g)

    pub no_day : {m : ℕ} → Some m ≡ pair_at s 5 → None ≡ pair_at s 8 → false ≡ date_at s
    unfolding date_at date_of
    no_day g h = rw (← e, ← f, ← g, ← h)

    pub a_date : {m d : ℕ} → Some m ≡ pair_at s 5 → Some d ≡ pair_at s 8 → date_at s ≡ ((eqb (byte_at s 4) 45 && eqb (byte_at s 7) 45) && is_date (100 * p + q) m d)
    unfolding date_at date_of
    a_date g h = rw (← e, ← f, ← g, ← h)

-- The code's three tests of a datetime are the grammar and the calendar.
use Prim.Native.Nat.{ℕ, suc, ◌+◌, ◌*◌, ◌-◌, ◌<◌, ◌≤◌}
use native.Mathlib.Numerals.{add-one}
use native.Mathlib.Omega.{arith}
use mathlib.Core.Path.{◌≡◌, refl, sym, ap, ◌∙◌}
use mathlib.Core.List.{List, ◌∷◌}
use mathlib.Core.Bool.{Bool, true, false, not, ◌&&◌, ◌||◌, cond, and-false, and-true, and_assoc, and_comm, or-false, or-true, false≢true}
use lib.ListN.{length, drop, take}
use lib.Seq.{drop-cons}
use lib.Dec.{leb, ltb, eqb, lit<}
use borrow.Author.Tests.{leb-true, leb-false, le-leb, lt-leb, ne_eqb, eqb-true, ltb-true, ltb-false}
use Rattle.abnf.specs.Abnf.{◌·◌, ◌//◌, x, opt, times, repeat}
use Rattle.abnf.specs.Accepts.{in_range, is_empty, starts, accepts}
use Rattle.abnf.proofs.Accepts.{and_both}
use Rattle.abnf.proofs.Steps.{both, range-true, starts-x, starts_either, starts-opt, empty_at}
use Rattle.times.specs.Datetime.{DIGIT, sixtieth, date, clock, fraction, zone, number_from, month_length, is_date, is_datetime}
use Rattle.times.specs.Parts.{byte_at, pair_at, at_most, digits, is_clock, is_sign, date_of, date_at, time_at, zone_at, ending_at}
use Rattle.times.proofs.Bytes.{byte_past}
use Rattle.times.proofs.Dates.{month-most}
use Rattle.times.proofs.Pairs.{number_at, read_number, pair_is_number, at_most_is}
use Rattle.times.proofs.Grammar.{pair-digits, starts-hour, starts-sixtieth, starts-pair}
use Rattle.times.proofs.Runs.{starts-run}

and_on : (t : Bool) {u v : Bool} → u ≡ v → (t && u) ≡ (t && v)
and_on t e = ap (λ (b : Bool). t && b) e

-- `HH:MM`
pub starts-clock : (k : List ℕ → Bool) (s : List ℕ) (i : ℕ) → starts clock k (drop i s) ≡ (is_clock s i && k (drop (i + 5) s))
unfolding starts is_clock
starts-clock k s i =
    let three : i + 2 + 1 ≡ i + 3 = omega arith in
    let five : i + 3 + 2 ≡ i + 5 = omega arith in
    starts-hour (λ r. starts (x 58 · sixtieth) k r) s i
    ∙ and_on (at_most 23 (pair_at s i))
    (starts-x (λ r. starts sixtieth k r) s (i + 2) 58 (lit< tt)
    ∙ and_on (eqb (byte_at s (i + 2)) 58)
    (ap (λ (n : ℕ). starts sixtieth k (drop n s)) three ∙ starts-sixtieth k s (i + 3) ∙ ap (λ (n : ℕ). at_most 59 (pair_at s (i + 3)) && k (drop n s)) five))
    ∙ regroup (at_most 23 (pair_at s i)) (eqb (byte_at s (i + 2)) 58) (at_most 59 (pair_at s (i + 3))) (k (drop (i + 5) s))
  where
    regroup : (a b c d : Bool) → (a && (b && (c && d))) ≡ ((a && (b && c)) && d)
    regroup true true c d = refl
    regroup true false c d = refl
    regroup false b c d = refl

-- `YYYY-MM-DD` by its bytes
shape : List ℕ → Bool
shape s =
    at_most 99 (pair_at s 0)
    && (at_most 99 (pair_at s 2)
    && (eqb (byte_at s 4) 45
    && (at_most 99 (pair_at s 5)
    && (eqb (byte_at s 7) 45
    && at_most 99 (pair_at s 8)))))

starts-date : (k : List ℕ → Bool) (s : List ℕ) → starts date k s ≡ (shape s && k (drop 10 s))
unfolding starts shape
starts-date k s =
    starts-pair (λ r. starts (DIGIT · DIGIT) (λ r. starts (x 45 · times 2 DIGIT · x 45 · times 2 DIGIT) k r) r) s 0
    ∙ and_on (at_most 99 (pair_at s 0))
    (starts-pair (λ r. starts (x 45 · times 2 DIGIT · x 45 · times 2 DIGIT) k r) s 2
    ∙ and_on (at_most 99 (pair_at s 2))
    (starts-x (λ r. starts (times 2 DIGIT · x 45 · times 2 DIGIT) k r) s 4 45 (lit< tt)
    ∙ and_on (eqb (byte_at s 4) 45)
    (starts-pair (λ r. starts (x 45 · times 2 DIGIT) k r) s 5
    ∙ and_on (at_most 99 (pair_at s 5))
    (starts-x (λ r. starts (times 2 DIGIT) k r) s 7 45 (lit< tt)
    ∙ and_on (eqb (byte_at s 7) 45) (starts-pair k s 8)))))
    ∙ regroup (at_most 99 (pair_at s 0)) (at_most 99 (pair_at s 2)) (eqb (byte_at s 4) 45) (at_most 99 (pair_at s 5)) (eqb (byte_at s 7) 45) (at_most 99 (pair_at s 8)) (k (drop 10 s))
  where
    regroup : (a b c d e f g : Bool) → (a && (b && (c && (d && (e && (f && g)))))) ≡ ((a && (b && (c && (d && (e && f))))) && g)
    regroup false b c d e f g = refl
    regroup true false c d e f g = refl
    regroup true true false d e f g = refl
    regroup true true true false e f g = refl
    regroup true true true true false f g = refl
    regroup true true true true true f g = refl

-- `THH:MM:SS`
starts-time : (k : List ℕ → Bool) (s : List ℕ) → starts (x 84 · clock · x 58 · sixtieth) k (drop 10 s) ≡ (time_at s && k (drop 19 s))
unfolding starts time_at
starts-time k s =
    starts-x (λ r. starts (clock · x 58 · sixtieth) k r) s 10 84 (lit< tt)
    ∙ and_on (eqb (byte_at s 10) 84)
    (starts-clock (λ r. starts (x 58 · sixtieth) k r) s 11
    ∙ and_on (is_clock s 11)
    (starts-x (λ r. starts sixtieth k r) s 16 58 (lit< tt)
    ∙ and_on (eqb (byte_at s 16) 58) (starts-sixtieth k s 17)))
    ∙ regroup (eqb (byte_at s 10) 84) (is_clock s 11) (eqb (byte_at s 16) 58) (at_most 59 (pair_at s 17)) (k (drop 19 s))
  where
    regroup : (a b c d e : Bool) → (a && (b && (c && (d && e)))) ≡ ((a && (b && (c && d))) && e)
    regroup false b c d e = refl
    regroup true false c d e = refl
    regroup true true false d e = refl
    regroup true true true d e = refl

sign-not_z : (b : ℕ) → b ≡ 90 → is_sign b ≡ false
unfolding is_sign
sign-not_z b e = rw (ne_eqb b 43 (λ q. omega arith), ne_eqb b 45 (λ q. omega arith))

-- the zone and the end
starts-zone : (s : List ℕ) (at : ℕ) → starts (opt zone) is_empty (drop at s) ≡ zone_at s at
unfolding starts zone_at is_sign
starts-zone s at =
    let b = byte_at s at in
    let six : at + 1 + 5 ≡ at + 6 = omega arith in
    let z : starts (x 90) is_empty (drop at s) ≡ (eqb b 90 && leb (length s) (at + 1)) = starts-x is_empty s at 90 (lit< tt) ∙ and_on (eqb b 90) (empty_at s (at + 1)) in
    let t : starts clock is_empty (drop (at + 1) s) ≡ (is_clock s (at + 1) && leb (length s) (at + 6)) =
    starts-clock is_empty s (at + 1) ∙ and_on (is_clock s (at + 1)) (empty_at s (at + 1 + 5) ∙ ap (λ (n : ℕ). leb (length s) n) six) in
    let f : starts ((x 43 // x 45) · clock) is_empty (drop at s) ≡ (is_sign b && (is_clock s (at + 1) && leb (length s) (at + 6))) =
    starts_either (x 43) (x 45) (λ r. starts clock is_empty r) (drop at s)
    ∙ cc (starts-x (λ r. starts clock is_empty r) s at 43 (lit< tt), starts-x (λ r. starts clock is_empty r) s at 45 (lit< tt))
    ∙ share (eqb b 43) (eqb b 45) (starts clock is_empty (drop (at + 1) s))
    ∙ and_on (is_sign b) t in
    starts-opt zone is_empty (drop at s)
    ∙ cc (starts_either (x 90) ((x 43 // x 45) · clock) is_empty (drop at s), z, f, empty_at s at)
    ∙ fit (eqb b 90) (is_sign b) (leb (length s) (at + 1)) (is_clock s (at + 1) && leb (length s) (at + 6)) (leb (length s) at) (λ e. sign-not_z b (eqb-true b 90 e))
  where
    share : (a b c : Bool) → ((a && c) || (b && c)) ≡ ((a || b) && c)
    share true b true = refl
    share true b false = and-false b
    share false b c = refl

    fit : (z g l c n : Bool) → (z ≡ true → g ≡ false) → (((z && l) || (g && c)) || n) ≡ (n || cond z l (g && c))
    fit true g l c n h = rw (h refl, or-false l) (mathlib.Core.Bool.or_comm l n)
    fit false g l c n h = mathlib.Core.Bool.or_comm (g && c) n

-- no zone starts with a digit, or with the dot of a fraction
zone_no-digit : (b : ℕ) (r : List ℕ) → in_range 48 57 b ≡ true → starts (opt zone) is_empty (b ∷ r) ≡ false
unfolding zone_at is_sign
zone_no-digit b r e =
    let h = range-true 48 57 b e in
    let l : leb (length (b ∷ r)) 0 ≡ false = lt-leb (length (b ∷ r)) 0 (omega arith) in
    starts-zone (b ∷ r) 0 ∙ rw (l, ne_eqb b 90 (λ q. omega arith), ne_eqb b 43 (λ q. omega arith), ne_eqb b 45 (λ q. omega arith))

zone_no-dot : (s : List ℕ) (at : ℕ) → byte_at s at ≡ 46 → zone_at s at ≡ false
unfolding zone_at is_sign
zone_no-dot s at e =
    let l : leb (length s) at ≡ false = both (leb (length s) at) (λ q. absurd (omega (arith, byte_past s at (leb-true (length s) at q)))) (λ q. q) in
    rw (l, e)

starts-ending : (s : List ℕ) → starts (opt fraction · opt zone) is_empty (drop 19 s) ≡ ending_at s
unfolding starts ending_at
starts-ending s =
    let k : List ℕ → Bool = starts (opt zone) is_empty in
    let n = digits 9 (drop 20 s) in
    let f : starts fraction k (drop 19 s) ≡ (eqb (byte_at s 19) 46 && (not (eqb n 0) && k (drop n (drop 20 s)))) =
    starts-x (λ r. starts (repeat 1 9 DIGIT) k r) s 19 46 (lit< tt) ∙ and_on (eqb (byte_at s 19) 46) (starts-run 8 k zone_no-digit (drop 20 s)) in
    starts-opt fraction k (drop 19 s)
    ∙ cc (f, starts-zone s 19, ap k (lib.Seq.drop-drop n 20 s), starts-zone s (20 + n))
    ∙ fit (eqb (byte_at s 19) 46) (not (eqb n 0) && zone_at s (20 + n)) (zone_at s 19) (λ e. zone_no-dot s 19 (eqb-true (byte_at s 19) 46 e))
  where
    fit : (d z y : Bool) → (d ≡ true → y ≡ false) → ((d && z) || y) ≡ cond d z y
    fit true z y h = rw (h refl) (or-false z)
    fit false z y h = refl

-- the numbers of a date
drop-two : (s : List ℕ) (i : ℕ) → at_most 99 (pair_at s i) ≡ true → drop i s ≡ byte_at s i ∷ byte_at s (i + 1) ∷ drop (i + 2) s
drop-two s i e =
    let d = pair-digits (byte_at s i) (byte_at s (i + 1)) 99 (lit< tt) (sym (at_most_is 99 s i (lit< tt)) ∙ e) in
    let l : i + 1 < length s = both (ltb (i + 1) (length s)) (λ q. ltb-true (i + 1) (length s) q) (λ q. absurd (omega (arith, byte_past s (i + 1) (ltb-false (i + 1) (length s) q)))) in
    let two : suc (i + 1) ≡ i + 2 = omega arith in
    drop-cons s i 256 (omega arith)
    ∙ ap (λ (n : ℕ). byte_at s i ∷ drop n s) (sym (add-one i))
    ∙ ap (λ (t : List ℕ). byte_at s i ∷ t) (drop-cons s (i + 1) 256 l ∙ ap (λ (n : ℕ). byte_at s (i + 1) ∷ drop n s) two)

number-pair : (n : ℕ) (s : List ℕ) (i : ℕ) → at_most 99 (pair_at s i) ≡ true → number_from n (take 2 (drop i s)) ≡ 100 * n + number_at s i
unfolding number_from
number-pair n s i e =
    let d = pair-digits (byte_at s i) (byte_at s (i + 1)) 99 (lit< tt) (sym (at_most_is 99 s i (lit< tt)) ∙ e) in
    rw (drop-two s i e) (omega arith)

year-pairs : (s : List ℕ) → at_most 99 (pair_at s 0) ≡ true → at_most 99 (pair_at s 2) ≡ true → number_from 0 (take 4 s) ≡ 100 * number_at s 0 + number_at s 2
unfolding number_from
year-pairs s e f =
    let d = pair-digits (byte_at s 0) (byte_at s 1) 99 (lit< tt) (sym (at_most_is 99 s 0 (lit< tt)) ∙ e) in
    let n : 10 * (10 * 0 + (byte_at s 0 - 48)) + (byte_at s 1 - 48) ≡ number_at s 0 = omega arith in
    ap (λ (t : List ℕ). number_from 0 (take 4 t)) (drop-two s 0 e)
    ∙ ap (λ (n : ℕ). number_from n (take 2 (drop 2 s))) n
    ∙ number-pair (number_at s 0) s 2 f

date_numbers : (year month day : ℕ) → is_date year month day ≡ true → (month ≤ 99) × (day ≤ 99)
unfolding is_date
date_numbers year month day e =
    let p = and_both (leb 1 month && leb month 12) (leb 1 day && leb day (month_length year month)) e in
    let m = leb-true month 12 (and_both (leb 1 month) (leb month 12) p.0).1 in
    let d = leb-true day (month_length year month) (and_both (leb 1 day) (leb day (month_length year month)) p.1).1 in
    (omega arith, omega (arith, month-most year month))

-- four numbers of two digits, and a date of the calendar
date_of-numbers : (p q m d : ℕ) (t : Bool) → date_of (read_number p) (read_number q) (read_number m) (read_number d) t ≡ (leb p 99 && (leb q 99 && (t && is_date (100 * p + q) m d)))
unfolding date_of read_number
date_of-numbers p q m d t =
    both (leb p 99)
    (λ a. both (leb q 99)
    (λ b. both (leb m 99)
    (λ c. both (leb d 99) (λ e. rw (a, b, c, e)) (λ e. rw (a, b, c, e) (no_number (λ h. (date_numbers (100 * p + q) m d h).1) e)))
    (λ c. rw (a, b, c) (no_number (λ h. (date_numbers (100 * p + q) m d h).0) c)))
    (λ b. rw (a, b)))
    (λ a. rw a)
  where
    no_number : {n : ℕ} {z : Bool} → (z ≡ true → n ≤ 99) → leb n 99 ≡ false → false ≡ (t && z)
    no_number {n} {z} h e = both z (λ x. absurd (omega (arith, h x, leb-false n 99 e))) (λ x. rw (x, and-false t))

date_at-numbers : (s : List ℕ) → date_at s ≡ (at_most 99 (pair_at s 0) && (at_most 99 (pair_at s 2) && ((eqb (byte_at s 4) 45 && eqb (byte_at s 7) 45) && is_date (100 * number_at s 0 + number_at s 2) (number_at s 5) (number_at s 8))))
unfolding date_at
date_at-numbers s =
    let n : (i : ℕ) → pair_at s i ≡ read_number (number_at s i) = λ i. pair_is_number (byte_at s i) (byte_at s (i + 1)) in
    cc (n 0, n 2, n 5, n 8)
    ∙ date_of-numbers (number_at s 0) (number_at s 2) (number_at s 5) (number_at s 8) (eqb (byte_at s 4) 45 && eqb (byte_at s 7) 45)
    ∙ cc (at_most_is 99 s 0 (lit< tt), at_most_is 99 s 2 (lit< tt))

-- the code's date is the grammar's with the calendar
date_reads : (s : List ℕ) → (shape s && is_date (number_from 0 (take 4 s)) (number_from 0 (take 2 (drop 5 s))) (number_from 0 (take 2 (drop 8 s)))) ≡ date_at s
unfolding shape
date_reads s =
    fit (at_most 99 (pair_at s 0)) (at_most 99 (pair_at s 2)) (eqb (byte_at s 4) 45) (at_most 99 (pair_at s 5)) (eqb (byte_at s 7) 45) (at_most 99 (pair_at s 8)) _ _
    (λ a b c d.
    let y = year-pairs s a b in
    let m = number-pair 0 s 5 c in
    let n = number-pair 0 s 8 d in
    let m' : number_from 0 (take 2 (drop 5 s)) ≡ number_at s 5 = omega arith in
    let n' : number_from 0 (take 2 (drop 8 s)) ≡ number_at s 8 = omega arith in
    rw (y, m', n'))
    (λ e.
    let h = date_numbers (100 * number_at s 0 + number_at s 2) (number_at s 5) (number_at s 8) e in
    (at_most_is 99 s 5 (lit< tt) ∙ le-leb (number_at s 5) 99 h.0, at_most_is 99 s 8 (lit< tt) ∙ le-leb (number_at s 8) 99 h.1))
    ∙ sym (date_at-numbers s)
  where
    fit : (a b c d e f q r : Bool) → (a ≡ true → b ≡ true → d ≡ true → f ≡ true → q ≡ r) → (r ≡ true → (d ≡ true) × (f ≡ true))
        → ((a && (b && (c && (d && (e && f))))) && q) ≡ (a && (b && ((c && e) && r)))
    fit false b c d e f q r g h = refl
    fit true false c d e f q r g h = refl
    fit true true false d e f q r g h = refl
    fit true true true d false f q r g h = ap (λ (t : Bool). t && q) (and-false d)
    fit true true true true true true q r g h = g refl refl refl refl
    fit true true true true true false q true g h = (h refl).1
    fit true true true true true false q false g h = refl
    fit true true true false true f q true g h = (h refl).0
    fit true true true false true f q false g h = refl

pub datetime_reads : (s : List ℕ) → is_datetime s ≡ (date_at s && (time_at s && ending_at s))
unfolding is_datetime accepts starts
datetime_reads s =
    ap (λ (t : Bool). t && is_date (number_from 0 (take 4 s)) (number_from 0 (take 2 (drop 5 s))) (number_from 0 (take 2 (drop 8 s))))
    (starts-date (λ r. starts (x 84 · clock · x 58 · sixtieth · opt fraction · opt zone) is_empty r) s
    ∙ and_on (shape s) (starts-time (λ r. starts (opt fraction · opt zone) is_empty r) s ∙ and_on (time_at s) (starts-ending s)))
    ∙ regroup (shape s) (time_at s && ending_at s) _
    ∙ ap (λ (t : Bool). t && (time_at s && ending_at s)) (date_reads s)
  where
    regroup : (a b c : Bool) → ((a && b) && c) ≡ ((a && c) && b)
    regroup true b c = and_comm b c
    regroup false b c = refl

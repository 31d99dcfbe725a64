-- The grammars of times at a place in a text.
use Prim.Native.Nat.{ℕ, ◌+◌, ◌*◌, ◌-◌, ◌<◌, ◌≤◌}
use native.Mathlib.Omega.{arith}
use mathlib.Core.Path.{◌≡◌, sym, ap, ◌∙◌}
use mathlib.Core.List.{List}
use mathlib.Core.Bool.{Bool, true, false, not, ◌&&◌, ◌||◌, cond, and-false, and_assoc, or-false, false≢true}
use lib.ListN.{drop}
use lib.Dec.{leb, lit<}
use borrow.Author.Tests.{leb-true, leb-false, le-leb}
use Rattle.abnf.specs.Abnf.{◌–◌, ◌·◌, x}
use Rattle.abnf.specs.Accepts.{in_range, starts}
use Rattle.abnf.proofs.Accepts.{and_both}
use Rattle.abnf.proofs.Steps.{both, same_test, range-true, in_range_lem, above_range, starts-byte, starts_either}
use Rattle.times.specs.Datetime.{DIGIT, hour, sixtieth}
use Rattle.times.specs.Parts.{byte_at, pair_at, at_most}
use Rattle.times.proofs.Pairs.{pair_number, number_at, at_most_is}

-- what two digits write, seen from the bytes
pub record Digits (a b n : ℕ) : Type 0 where
  pub a-low : 48 ≤ a
  pub a-high : a ≤ 57
  pub b-low : 48 ≤ b
  pub b-high : b ≤ 57
  pub is : pair_number a b ≡ 10 * (a - 48) + (b - 48)

pub pair-digits : (a b : ℕ) (m : ℕ) → m < 100 → leb (pair_number a b) m ≡ true → Digits a b m
unfolding pair_number
pair-digits a b m h e =
    both (in_range 48 57 a && in_range 48 57 b)
    (λ q.
    let p = and_both (in_range 48 57 a) (in_range 48 57 b) q in
    let r = range-true 48 57 a p.0 in
    let t = range-true 48 57 b p.1 in
    record { a-low = r.0; a-high = r.1; b-low = t.0; b-high = t.1; is = rw q })
    (λ q. absurd (let n : pair_number a b ≡ 100 = rw q in let l = leb-true (pair_number a b) m e in omega arith))

pub digits-pair : (a b : ℕ) → in_range 48 57 a ≡ true → in_range 48 57 b ≡ true → pair_number a b ≡ 10 * (a - 48) + (b - 48)
unfolding pair_number
digits-pair a b e f = rw (e, f)

-- a pair of digits by its number, and by its bytes
hour-bytes : (a b : ℕ) → ((in_range 48 49 a && in_range 48 57 b) || (in_range 50 50 a && in_range 48 51 b)) ≡ leb (pair_number a b) 23
hour-bytes a b = same_test _ (leb (pair_number a b) 23)
    (λ e. both (in_range 48 49 a && in_range 48 57 b)
    (λ q.
    let p = and_both (in_range 48 49 a) (in_range 48 57 b) q in
    let r = range-true 48 49 a p.0 in
    let t = range-true 48 57 b p.1 in
    le-leb (pair_number a b) 23 (omega (arith, digits-pair a b (in_range_lem 48 57 a (omega arith) (omega arith)) p.1)))
    (λ q.
    let p = and_both (in_range 50 50 a) (in_range 48 51 b) (ap (λ (t : Bool). t || (in_range 50 50 a && in_range 48 51 b)) (sym q) ∙ e) in
    let r = range-true 50 50 a p.0 in
    let t = range-true 48 51 b p.1 in
    le-leb (pair_number a b) 23 (omega (arith, digits-pair a b (in_range_lem 48 57 a (omega arith) (omega arith)) (in_range_lem 48 57 b (omega arith) (omega arith))))))
    (λ e.
    let d = pair-digits a b 23 (lit< tt) e in
    let l = leb-true (pair_number a b) 23 e in
    both (leb a 49)
    (λ q. let h = leb-true a 49 q in rw (in_range_lem 48 49 a (omega arith) (omega arith), in_range_lem 48 57 b (omega arith) (omega arith)))
    (λ q.
    let h = leb-false a 49 q in
    rw (above_range 48 49 a (omega arith), in_range_lem 50 50 a (omega arith) (omega arith), in_range_lem 48 51 b (omega arith) (omega arith))))

sixtieth-bytes : (a b : ℕ) → (in_range 48 53 a && in_range 48 57 b) ≡ leb (pair_number a b) 59
sixtieth-bytes a b = same_test (in_range 48 53 a && in_range 48 57 b) (leb (pair_number a b) 59)
    (λ e.
    let p = and_both (in_range 48 53 a) (in_range 48 57 b) e in
    let r = range-true 48 53 a p.0 in
    let t = range-true 48 57 b p.1 in
    le-leb (pair_number a b) 59 (omega (arith, digits-pair a b (in_range_lem 48 57 a (omega arith) (omega arith)) p.1)))
    (λ e.
    let d = pair-digits a b 59 (lit< tt) e in
    let l = leb-true (pair_number a b) 59 e in
    rw (in_range_lem 48 53 a (omega arith) (omega arith), in_range_lem 48 57 b (omega arith) (omega arith)))

pair-bytes : (a b : ℕ) → (in_range 48 57 a && in_range 48 57 b) ≡ leb (pair_number a b) 99
pair-bytes a b = same_test (in_range 48 57 a && in_range 48 57 b) (leb (pair_number a b) 99)
    (λ e.
    let p = and_both (in_range 48 57 a) (in_range 48 57 b) e in
    let r = range-true 48 57 a p.0 in
    let t = range-true 48 57 b p.1 in
    le-leb (pair_number a b) 99 (omega (arith, digits-pair a b p.0 p.1)))
    (λ e.
    let d = pair-digits a b 99 (lit< tt) e in
    rw (in_range_lem 48 57 a (omega arith) (omega arith), in_range_lem 48 57 b (omega arith) (omega arith)))

and_with : (t u v : Bool) (w : Bool) → (t && u) ≡ v → (t && (u && w)) ≡ (v && w)
and_with t u v w e = sym (and_assoc t u w) ∙ ap (λ (b : Bool). b && w) e

both_with : (t u v q r w : Bool) → ((t && u) || (v && q)) ≡ r → ((t && (u && w)) || (v && (q && w))) ≡ (r && w)
both_with t u v q r true e = all t u v q ∙ e ∙ sym (mathlib.Core.Bool.and-true r)
  where
    all : (t u v q : Bool) → ((t && (u && true)) || (v && (q && true))) ≡ ((t && u) || (v && q))
    all t u v q = rw (mathlib.Core.Bool.and-true u, mathlib.Core.Bool.and-true q)
both_with t u v q r false e = rw (and-false u, and-false q, and-false t, and-false v, and-false r)

module _ (k : List ℕ → Bool) (s : List ℕ) (i : ℕ) where
  two_on : i + 1 + 1 ≡ i + 2
  two_on = omega arith

  -- two bytes of given ranges, and on
  two_bytes : (lo hi l h : ℕ) → hi < 256 → h < 256 → starts ((lo – hi) · (l – h)) k (drop i s) ≡ (in_range lo hi (byte_at s i) && (in_range l h (byte_at s (i + 1)) && k (drop (i + 2) s)))
  unfolding starts
  two_bytes lo hi l h p q =
      starts-byte (λ r. starts (l – h) k r) s i lo hi p
      ∙ ap (λ (t : Bool). in_range lo hi (byte_at s i) && t) (starts-byte k s (i + 1) l h q ∙ ap (λ (n : ℕ). in_range l h (byte_at s (i + 1)) && k (drop n s)) two_on)

  pub starts-hour : starts hour k (drop i s) ≡ (at_most 23 (pair_at s i) && k (drop (i + 2) s))
  starts-hour =
      starts_either (48 – 49 · DIGIT) (x 50 · 48 – 51) k (drop i s)
      ∙ cc (two_bytes 48 49 48 57 (lit< tt) (lit< tt), two_bytes 50 50 48 51 (lit< tt) (lit< tt))
      ∙ both_with (in_range 48 49 (byte_at s i)) (in_range 48 57 (byte_at s (i + 1))) (in_range 50 50 (byte_at s i)) (in_range 48 51 (byte_at s (i + 1))) (leb (number_at s i) 23) (k (drop (i + 2) s)) (hour-bytes (byte_at s i) (byte_at s (i + 1))) ∙ ap (λ (t : Bool). t && k (drop (i + 2) s)) (sym (at_most_is 23 s i (lit< tt)))

  pub starts-sixtieth : starts sixtieth k (drop i s) ≡ (at_most 59 (pair_at s i) && k (drop (i + 2) s))
  starts-sixtieth = two_bytes 48 53 48 57 (lit< tt) (lit< tt) ∙ and_with (in_range 48 53 (byte_at s i)) (in_range 48 57 (byte_at s (i + 1))) (leb (number_at s i) 59) (k (drop (i + 2) s)) (sixtieth-bytes (byte_at s i) (byte_at s (i + 1))) ∙ ap (λ (t : Bool). t && k (drop (i + 2) s)) (sym (at_most_is 59 s i (lit< tt)))

  pub starts-pair : starts (DIGIT · DIGIT) k (drop i s) ≡ (at_most 99 (pair_at s i) && k (drop (i + 2) s))
  starts-pair = two_bytes 48 57 48 57 (lit< tt) (lit< tt) ∙ and_with (in_range 48 57 (byte_at s i)) (in_range 48 57 (byte_at s (i + 1))) (leb (number_at s i) 99) (k (drop (i + 2) s)) (pair-bytes (byte_at s i) (byte_at s (i + 1))) ∙ ap (λ (t : Bool). t && k (drop (i + 2) s)) (sym (at_most_is 99 s i (lit< tt)))

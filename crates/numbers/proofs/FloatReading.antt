-- What the reader of decimals does on a text by its parts, and that it comes to the rule.
use Rattle.std.specs.Prelude.{Option, None, Some}
use Prim.Native.Nat.{ℕ, ◌+◌, ◌-◌, ◌*◌, ◌≤◌, ◌<◌}
use native.Mathlib.Omega.{arith}
use native.Mathlib.Decide.{dec_le}
use mathlib.Core.Path.{◌≡◌, refl, sym, ap, subst, ◌∙◌}
use mathlib.Core.Logic.{◌⊎◌, inl, inr}
use mathlib.Core.List.{List, [], ◌∷◌, ◌++◌, append-nil}
use mathlib.Core.Bool.{Bool, true, false, cond, ◌&&◌, false≢true}
use lib.Dec.{leb, ltb, eqb}
use lib.ListN.{length, get_or, drop, length-append}
use lib.IntN.{ℤ, pos, neg_ℤ, sub_ℕ, ◌+ℤ◌, ◌-ℤ◌}
use borrow.Author.Tests.{le-leb, lt-leb, lt-ltb, ltb-true, eqb-true}
use Rattle.numbers.specs.declared.decimals.DecimalRead.{DecimalRead}
use Rattle.abnf.specs.Accepts.{accepts}
use Rattle.numbers.specs.Digits.{is_digit, numeral, number}
use Rattle.numbers.specs.Grammar.{float-text}
use Rattle.numbers.specs.Whole.{signed, minus, between, stands}
use Rattle.numbers.specs.Decimal.{Scientific, is_e, decimal, decimal_read}
use Rattle.numbers.specs.Parts.{all_digits, Found, found, over, run, made, after_power, after_digits, are_few, ending, after_fraction, after_whole}
use Rattle.numbers.proofs.Difference.{sub_eq, add-sub, neg-pos, pos-sub}
use Rattle.abnf.proofs.Steps.{both}
use Rattle.abnf.proofs.Accepts.{and_both}
use Rattle.numbers.proofs.Texts.{sign, dotted, dotted-some, powered, Powered, cons-digits, uncons-digits, no-digits}
use Rattle.numbers.proofs.Signs.{unsigned, minus-sign, unsigned-sign, resign, between-minus, between-plus}
use Rattle.numbers.proofs.FloatText.{text, Shaped, Shape, accepted_shape, exponent, e_no-digit, e_no-dot, starts, decimal_is}

-- the reader of a text
abbrev pub reader : List ℕ → Option DecimalRead
reader s = after_whole (minus s) (run 18 0 0 (unsigned s))

-- a run of digits, and something else after it
numeral-append : (a : ℕ) (l r : List ℕ) → numeral a (l ++ r) ≡ numeral (numeral a l) r
unfolding numeral
numeral-append a [] r = refl
numeral-append a (d ∷ l) r = numeral-append (a * 10 + (d - 48)) l r

run_stops : (limit v n : ℕ) (r : List ℕ) → is_digit (get_or r 0 0) ≡ false → run limit v n r ≡ found v n r
unfolding run
run_stops limit v n [] e = refl
run_stops limit v n (b ∷ r) e = rw e

run_through : (limit v n k : ℕ) (ds r : List ℕ) → all_digits ds ≡ true → is_digit (get_or r 0 0) ≡ false → n + length ds ≡ k → k ≤ limit → run limit v n (ds ++ r) ≡ found (numeral v ds) k r
unfolding run numeral
run_through limit v n k [] r a e i l = run_stops limit v n r e ∙ ap (λ (m : ℕ). found v m r) (let j : n ≡ k = omega arith in j)
run_through limit v n k (d ∷ ds) r a e i l =
    let p = uncons-digits d ds a in
    rw (p.0, lt-ltb n limit (omega arith)) (run_through limit (v * 10 + (d - 48)) (n + 1) k ds r p.1 e (omega arith) l)

run-over : (limit v n : ℕ) (ds r : List ℕ) → all_digits ds ≡ true → n ≤ limit → limit < n + length ds → run limit v n (ds ++ r) ≡ over
unfolding run
run-over limit v n [] r a h l = absurd (omega arith)
run-over limit v n (d ∷ ds) r a h l =
    let p = uncons-digits d ds a in
    both (ltb n limit)
    (λ t. let u : n < limit = ltb-true n limit t in rw (p.0, t) (run-over limit (v * 10 + (d - 48)) (n + 1) ds r p.1 (omega arith) (omega arith)))
    (λ t. rw (p.0, t))

-- the exponent of a decimal, less the digits behind the dot
shifted : (a b f n : ℕ) (z : ℤ) → z ≡ sub_ℕ a b → n + (b + f) ≡ a + 300 → stands 300 n ≡ z -ℤ pos f
shifted a b f n z e i =
    sym
    (ap (λ (y : ℤ). y -ℤ pos f) e
    ∙ ap (λ (y : ℤ). sub_ℕ a b +ℤ y) (neg-pos f)
    ∙ add-sub a b 0 f
    ∙ sub_eq (a + 0) (b + f) n 300 (omega arith))

abbrev answer : Bool → ℕ → ℕ → ℤ → Option Scientific
answer neg m f z = cond (between (neg_ℤ (pos 280)) (pos 280) z) (Some (record { negative = neg; mantissa = m; exponent = z -ℤ pos f })) None

module _ (neg : Bool) (m f : ℕ) (few : f ≤ 18) where
  made_is : (n : ℕ) (z : ℤ) (b : Bool) → stands 300 n ≡ z -ℤ pos f → decimal_read (made neg m n b) ≡ Some (record { negative = neg; mantissa = m; exponent = z -ℤ pos f })
  made_is n z b e = ap (λ (y : ℤ). Some (record { negative = neg; mantissa = m; exponent = y })) e

  -- an exponent of size e
  sized : (below : Bool) (e : ℕ) → decimal_read (cond (leb e 280) (made neg m (cond below (300 - f - e) (300 - f + e)) false) None) ≡ answer neg m f (signed below e)
  sized true e =
      pick (dec_le e 280)
      ∙ ap (λ (t : Bool). cond t (Some (record { negative = neg; mantissa = m; exponent = signed true e -ℤ pos f })) None) (sym (between-minus 280 280 e))
    where
      pick : Dec (e ≤ 280) → decimal_read (cond (leb e 280) (made neg m (300 - f - e) false) None) ≡ cond (leb e 280) (Some (record { negative = neg; mantissa = m; exponent = signed true e -ℤ pos f })) None
      pick (yes h) = rw (le-leb e 280 h) (made_is (300 - f - e) (signed true e) false (shifted 0 e f (300 - f - e) (signed true e) (neg-pos e) (omega arith)))
      pick (no h) = rw (lt-leb e 280 (omega arith))
  sized false e =
      pick (dec_le e 280)
      ∙ ap (λ (t : Bool). cond t (Some (record { negative = neg; mantissa = m; exponent = signed false e -ℤ pos f })) None) (sym (between-plus 280 280 e))
    where
      pick : Dec (e ≤ 280) → decimal_read (cond (leb e 280) (made neg m (300 - f + e) false) None) ≡ cond (leb e 280) (Some (record { negative = neg; mantissa = m; exponent = signed false e -ℤ pos f })) None
      pick (yes h) = rw (le-leb e 280 h) (made_is (300 - f + e) (signed false e) false (shifted e 0 f (300 - f + e) (signed false e) (pos-sub e) (omega arith)))
      pick (no h) = rw (lt-leb e 280 (omega arith))

  after-power : (below : Bool) (e : ℕ) (es : List ℕ) → all_digits (e ∷ es) ≡ true → length (e ∷ es) ≤ 3 → decimal_read (after_power neg m f below (run 3 0 0 (e ∷ es))) ≡ answer neg m f (exponent below (e ∷ es))
  unfolding after_power
  after-power below e es a l =
      ap (λ (x : Found). decimal_read (after_power neg m f below x))
      (ap (λ (t : List ℕ). run 3 0 0 t) (sym (append-nil (e ∷ es))) ∙ run_through 3 0 0 (length (e ∷ es)) (e ∷ es) [] a refl (omega arith) l)
      ∙ rw (lt-ltb 0 (length (e ∷ es)) (omega arith)) (sized below (number (e ∷ es)))

  ending_is : (n c : ℕ) (below : Bool) (es : List ℕ) → is_e c ≡ true → all_digits es ≡ true → length es ≤ 3 → decimal_read (ending neg m n f (powered c below es)) ≡ answer neg m f (exponent below es)
  unfolding ending after_digits
  ending_is n c below [] i a l = made_is (300 - f) (pos 0) (are_few n f) (shifted 0 0 f (300 - f) (pos 0) (pos-sub 0) (omega arith))
  ending_is n c true (e ∷ es) i a l = rw i (after-power true e es a l)
  ending_is n c false (e ∷ es) i a l = rw (i, minus-sign false (e ∷ es) (uncons-digits e es a).0) (after-power false e es a l)

-- after digits comes no digit
module _ (c : ℕ) (below : Bool) (i : is_e c ≡ true) where
  powered_stops : (es : List ℕ) → is_digit (get_or (powered c below es) 0 0) ≡ false
  powered_stops [] = refl
  powered_stops (e ∷ es) = e_no-digit c i

  powered_no-dot : (es : List ℕ) → eqb (get_or (powered c below es) 0 0) 46 ≡ false
  powered_no-dot [] = refl
  powered_no-dot (e ∷ es) = e_no-dot c i

  dotted_stops : (fs es : List ℕ) → is_digit (get_or (dotted fs ++ powered c below es) 0 0) ≡ false
  dotted_stops [] es = powered_stops es
  dotted_stops (f ∷ fs) es = refl

module _ (neg : Bool) (ws : List ℕ) (c : ℕ) (below : Bool) (es : List ℕ) where
  -- the digits before the dot are at most 18
  whole_run : (fs : List ℕ) → Shaped ws fs c es → length ws ≤ 18 → run 18 0 0 (ws ++ (dotted fs ++ powered c below es)) ≡ found (number ws) (length ws) (dotted fs ++ powered c below es)
  whole_run fs h l = run_through 18 0 0 (length ws) ws (dotted fs ++ powered c below es) h.whole (dotted_stops c below h.letter fs es) (omega arith) l

  pub short : (fs : List ℕ) → Shaped ws fs c es → length ws + length fs ≤ 18 → after_whole neg (run 18 0 0 (ws ++ (dotted fs ++ powered c below es))) ≡ ending neg (number (ws ++ fs)) (length ws) (length fs) (powered c below es)
  unfolding after_whole after_fraction
  short [] h l =
      let p = h.some-whole in
      rw (whole_run [] h (omega arith), lt-ltb 0 (length ws) p, powered_no-dot c below h.letter es, append-nil ws)
  short (f ∷ fs) h l =
      let p = h.some-whole in
      rw
      (whole_run (f ∷ fs) h (omega arith), lt-ltb 0 (length ws) p, run_through 18 (number ws) (length ws) (length ws + length (f ∷ fs)) (f ∷ fs) (powered c below es) h.behind (powered_stops c below h.letter es) refl l, lt-ltb (length ws) (length ws + length (f ∷ fs)) (omega arith), numeral-append 0 ws (f ∷ fs))
      (ap (λ (k : ℕ). ending neg (numeral (number ws) (f ∷ fs)) (length ws) k (powered c below es)) (let j : length ws + length (f ∷ fs) - length ws ≡ length (f ∷ fs) = omega arith in j))

  pub long : (fs : List ℕ) → Shaped ws fs c es → 18 < length ws + length fs → after_whole neg (run 18 0 0 (ws ++ (dotted fs ++ powered c below es))) ≡ None
  unfolding after_whole after_fraction
  long fs h l = pick fs h l (dec_le (length ws) 18)
    where
      pick : (gs : List ℕ) → Shaped ws gs c es → 18 < length ws + length gs → Dec (length ws ≤ 18) → after_whole neg (run 18 0 0 (ws ++ (dotted gs ++ powered c below es))) ≡ None
      pick gs k u (no n) = rw (run-over 18 0 0 ws (dotted gs ++ powered c below es) k.whole (omega arith) (omega arith))
      pick [] k u (yes n) = absurd (omega arith)
      pick (g ∷ gs) k u (yes n) =
          let p = k.some-whole in
          rw (whole_run (g ∷ gs) k n, lt-ltb 0 (length ws) p, run-over 18 (number ws) (length ws) (g ∷ gs) (powered c below es) k.behind n u)

-- the sign is read first
pub reader-sign : (neg : Bool) (ws fs : List ℕ) (c : ℕ) (below : Bool) (es : List ℕ) → Shaped ws fs c es → reader (text neg ws fs c below es) ≡ after_whole neg (run 18 0 0 (ws ++ (dotted fs ++ powered c below es)))
reader-sign neg ws fs c below es h =
    let t = ws ++ (dotted fs ++ powered c below es) in
    let st : is_digit (get_or t 0 0) ≡ true = starts neg ws fs c below es h in
    ap (λ (b : Bool). after_whole b (run 18 0 0 (unsigned (sign neg ++ t)))) (minus-sign neg t st)
    ∙ ap (λ (l : List ℕ). after_whole neg (run 18 0 0 l)) (unsigned-sign neg t st)

-- on a text of the grammar the reader gives what the rule says
on-text : (neg : Bool) (ws fs : List ℕ) (c : ℕ) (below : Bool) (es : List ℕ) → Shaped ws fs c es → decimal_read (reader (text neg ws fs c below es)) ≡ decimal (text neg ws fs c below es)
on-text neg ws fs c below es h =
    ap decimal_read (reader-sign neg ws fs c below es h) ∙ pick (dec_le (length ws + length fs) 18) ∙ sym (decimal_is neg ws fs c below es h)
  where
    pick : Dec (length ws + length fs ≤ 18) → decimal_read (after_whole neg (run 18 0 0 (ws ++ (dotted fs ++ powered c below es)))) ≡ cond (leb (length (ws ++ fs)) 18 && between (neg_ℤ (pos 280)) (pos 280) (exponent below es)) (Some (record { negative = neg; mantissa = number (ws ++ fs); exponent = exponent below es -ℤ pos (length fs) })) None
    pick (yes l) =
        ap decimal_read (short neg ws c below es fs h l)
        ∙ ending_is neg (number (ws ++ fs)) (length fs) (omega arith) (length ws) c below es h.letter h.exponent h.short
        ∙ rw (le-leb (length (ws ++ fs)) 18 (omega (arith, length-append ws fs)))
    pick (no l) = ap decimal_read (long neg ws c below es fs h (omega arith)) ∙ rw (lt-leb (length (ws ++ fs)) 18 (omega (arith, length-append ws fs)))

-- what the reader accepts has these parts: each function answers `None`, or its text is of its form
record Cut (limit v n : ℕ) (s : List ℕ) : Type 0 where
  ds : List ℕ
  r : List ℕ
  all : all_digits ds ≡ true
  few : n ≤ limit → n + length ds ≤ limit
  cut : s ≡ ds ++ r
  is : run limit v n s ≡ found (numeral v ds) (n + length ds) r

run_cases : (limit v n : ℕ) (s : List ℕ) → (run limit v n s ≡ over) ⊎ Cut limit v n s
unfolding run numeral
run_cases limit v n [] = inr (record { ds = []; r = []; all = no-digits; few = λ l. omega arith; cut = refl; is = ap (λ (m : ℕ). found v m []) (let j : n ≡ n + 0 = omega arith in j) })
run_cases limit v n (d ∷ s) =
    both (is_digit d)
    (λ e. both (ltb n limit) (λ t. more e t (run_cases limit (v * 10 + (d - 48)) (n + 1) s)) (λ t. inl (rw (e, t))))
    (λ e. inr (record { ds = []; r = d ∷ s; all = no-digits; few = λ l. omega arith; cut = refl; is = rw e (ap (λ (m : ℕ). found v m (d ∷ s)) (let j : n ≡ n + 0 = omega arith in j)) }))
  where
    more : is_digit d ≡ true → ltb n limit ≡ true → (run limit (v * 10 + (d - 48)) (n + 1) s ≡ over) ⊎ Cut limit (v * 10 + (d - 48)) (n + 1) s → (run limit v n (d ∷ s) ≡ over) ⊎ Cut limit v n (d ∷ s)
    more e t (inl o) = inl (rw (e, t) o)
    more e t (inr k) =
        let u : n < limit = ltb-true n limit t in
        let w = k.few (omega arith) in
        inr
        (record {
          ds = d ∷ k.ds;
          r = k.r;
          all = cons-digits d k.ds e k.all;
          few = λ l. omega arith;
          cut = ap (λ (l : List ℕ). d ∷ l) k.cut;
          is = rw (e, t) (k.is ∙ ap (λ (m : ℕ). found (numeral (v * 10 + (d - 48)) k.ds) m k.r) (let j : n + 1 + length k.ds ≡ n + length (d ∷ k.ds) = omega arith in j));
        })

-- a test before an answer
cond_cases {ℓ} : {X : Type ℓ} (b : Bool) (a : Option DecimalRead) → (b ≡ true → (a ≡ None) ⊎ X) → (cond b a None ≡ None) ⊎ X
cond_cases true a f = f refl
cond_cases false a f = inl refl

record Digited (s : List ℕ) : Type 0 where
  all : all_digits s ≡ true
  some : 0 < length s
  few : length s ≤ 3

power_cases : (neg : Bool) (m f : ℕ) (below : Bool) (t : List ℕ) → (after_power neg m f below (run 3 0 0 t) ≡ None) ⊎ Digited t
unfolding after_power
power_cases neg m f below t = pick (run_cases 3 0 0 t)
  where
    last : (k : Cut 3 0 0 t) (r : List ℕ) → k.r ≡ r → (after_power neg m f below (found (numeral 0 k.ds) (0 + length k.ds) r) ≡ None) ⊎ Digited t
    last k (b ∷ r) e = inl refl
    last k [] e =
        cond_cases (ltb 0 (0 + length k.ds) && leb (numeral 0 k.ds) 280) _
        (λ q.
        let l : 0 < 0 + length k.ds = ltb-true 0 (0 + length k.ds) (and_both _ _ q).0 in
        let w : 0 + length k.ds ≤ 3 = k.few (omega arith) in
        let c : t ≡ k.ds = k.cut ∙ ap (λ (l : List ℕ). k.ds ++ l) e ∙ append-nil k.ds in
        inr (subst Digited (sym c) (record { all = k.all; some = omega arith; few = omega arith })))

    pick : (run 3 0 0 t ≡ over) ⊎ Cut 3 0 0 t → (after_power neg m f below (run 3 0 0 t) ≡ None) ⊎ Digited t
    pick (inl o) = inl (rw o)
    pick (inr k) = subst (λ (x : Found). (after_power neg m f below x ≡ None) ⊎ Digited t) (sym k.is) (last k k.r refl)

powered_by : (c : ℕ) (below : Bool) (es : List ℕ) → is_e c ≡ true → Digited es → Powered (c ∷ (sign below ++ es))
powered_by c below [] i d = let l = d.some in absurd (omega arith)
powered_by c below (e ∷ es) i d = record { c = c; neg = below; es = e ∷ es; letter = i; all = d.all; few = d.few; cut = refl }

first_byte : (k : ℕ) (s : List ℕ) → eqb 0 k ≡ false → eqb (get_or s 0 0) k ≡ true → s ≡ k ∷ drop 1 s
first_byte k [] z e = absurd (false≢true (sym z ∙ e))
first_byte k (b ∷ s) z e = ap (λ (c : ℕ). c ∷ s) (eqb-true b k e)

ending_cases : (neg : Bool) (m n f : ℕ) (t : List ℕ) → (ending neg m n f t ≡ None) ⊎ Powered t
unfolding ending after_digits
ending_cases neg m n f [] = inr (record { c = 101; neg = false; es = []; letter = refl; all = no-digits; few = omega arith; cut = refl })
ending_cases neg m n f (c ∷ cs) =
    cond_cases (is_e c) _
    (λ i.
    both (eqb (get_or cs 0 0) 45)
    (λ e. rw e (below i e (power_cases neg m f true (drop 1 cs))))
    (λ e. rw e (above i (power_cases neg m f false cs))))
  where
    below : is_e c ≡ true → eqb (get_or cs 0 0) 45 ≡ true → (after_power neg m f true (run 3 0 0 (drop 1 cs)) ≡ None) ⊎ Digited (drop 1 cs) → (after_power neg m f true (run 3 0 0 (drop 1 cs)) ≡ None) ⊎ Powered (c ∷ cs)
    below i e (inl q) = inl q
    below i e (inr d) = inr (subst (λ (l : List ℕ). Powered (c ∷ l)) (sym (first_byte 45 cs refl e)) (powered_by c true (drop 1 cs) i d))

    above : is_e c ≡ true → (after_power neg m f false (run 3 0 0 cs) ≡ None) ⊎ Digited cs → (after_power neg m f false (run 3 0 0 cs) ≡ None) ⊎ Powered (c ∷ cs)
    above i (inl q) = inl q
    above i (inr d) = inr (powered_by c false cs i d)

-- digits behind the dot, and an exponent or none
record Behind (t : List ℕ) : Type 0 where
  fs : List ℕ
  r : List ℕ
  all : all_digits fs ≡ true
  some : 0 < length fs
  rest : Powered r
  cut : t ≡ fs ++ r

fraction_cases : (neg : Bool) (m n : ℕ) (t : List ℕ) → (after_fraction neg n (run 18 m n t) ≡ None) ⊎ Behind t
unfolding after_fraction
fraction_cases neg m n t = pick (run_cases 18 m n t)
  where
    ended : (k : Cut 18 m n t) (e : ℕ) → n < n + length k.ds → (ending neg (numeral m k.ds) n e k.r ≡ None) ⊎ Powered k.r → (ending neg (numeral m k.ds) n e k.r ≡ None) ⊎ Behind t
    ended k e l (inl i) = inl i
    ended k e l (inr p) = inr (record { fs = k.ds; r = k.r; all = k.all; some = omega arith; rest = p; cut = k.cut })

    pick : (run 18 m n t ≡ over) ⊎ Cut 18 m n t → (after_fraction neg n (run 18 m n t) ≡ None) ⊎ Behind t
    pick (inl o) = inl (rw o)
    pick (inr k) =
        subst (λ (x : Found). (after_fraction neg n x ≡ None) ⊎ Behind t) (sym k.is)
        (cond_cases (ltb n (n + length k.ds)) _
        (λ q. ended k (n + length k.ds - n) (ltb-true n (n + length k.ds) q) (ending_cases neg (numeral m k.ds) n (n + length k.ds - n) k.r)))

-- what follows the sign
record Unsigned (t : List ℕ) : Type 0 where
  ws : List ℕ
  fs : List ℕ
  all : all_digits ws ≡ true
  some : 0 < length ws
  behind : all_digits fs ≡ true
  r : List ℕ
  rest : Powered r
  cut : t ≡ ws ++ (dotted fs ++ r)

whole_cases : (neg : Bool) (t : List ℕ) → (after_whole neg (run 18 0 0 t) ≡ None) ⊎ Unsigned t
unfolding after_whole
whole_cases neg t = pick (run_cases 18 0 0 t)
  where
    dot : (k : Cut 18 0 0 t) (a : Option DecimalRead) → 0 < 0 + length k.ds → eqb (get_or k.r 0 0) 46 ≡ true → (a ≡ None) ⊎ Behind (drop 1 k.r) → (a ≡ None) ⊎ Unsigned t
    dot k a l e (inl i) = inl i
    dot k a l e (inr b) =
        inr
        (record {
          ws = k.ds;
          fs = b.fs;
          all = k.all;
          some = omega arith;
          behind = b.all;
          r = b.r;
          rest = b.rest;
          cut = k.cut ∙ ap (λ (l : List ℕ). k.ds ++ l) (first_byte 46 k.r refl e ∙ ap (λ (l : List ℕ). 46 ∷ l) b.cut ∙ dotted-some b.fs b.r b.some);
        })

    plain : (k : Cut 18 0 0 t) (a : Option DecimalRead) → 0 < 0 + length k.ds → (a ≡ None) ⊎ Powered k.r → (a ≡ None) ⊎ Unsigned t
    plain k a l (inl i) = inl i
    plain k a l (inr p) = inr (record { ws = k.ds; fs = []; all = k.all; some = omega arith; behind = no-digits; r = k.r; rest = p; cut = k.cut })

    after : (k : Cut 18 0 0 t) → 0 < 0 + length k.ds → (b : Bool) → eqb (get_or k.r 0 0) 46 ≡ b → (cond b (after_fraction neg (0 + length k.ds) (run 18 (numeral 0 k.ds) (0 + length k.ds) (drop 1 k.r))) (ending neg (numeral 0 k.ds) (0 + length k.ds) 0 k.r) ≡ None) ⊎ Unsigned t
    after k l true e = dot k _ l e (fraction_cases neg (numeral 0 k.ds) (0 + length k.ds) (drop 1 k.r))
    after k l false e = plain k _ l (ending_cases neg (numeral 0 k.ds) (0 + length k.ds) 0 k.r)

    pick : (run 18 0 0 t ≡ over) ⊎ Cut 18 0 0 t → (after_whole neg (run 18 0 0 t) ≡ None) ⊎ Unsigned t
    pick (inl o) = inl (rw o)
    pick (inr k) =
        subst (λ (x : Found). (after_whole neg x ≡ None) ⊎ Unsigned t) (sym k.is)
        (cond_cases (ltb 0 (0 + length k.ds)) _ (λ q. after k (ltb-true 0 (0 + length k.ds) q) (eqb (get_or k.r 0 0) 46) refl))

pub reader_cases : (s : List ℕ) → (reader s ≡ None) ⊎ Shape s
reader_cases s = pick (whole_cases (minus s) (unsigned s))
  where
    pick : (reader s ≡ None) ⊎ Unsigned (unsigned s) → (reader s ≡ None) ⊎ Shape s
    pick (inl i) = inl i
    pick (inr u) =
        let p = u.rest in
        inr
        (record {
          neg = minus s;
          ws = u.ws;
          fs = u.fs;
          c = p.c;
          below = p.neg;
          es = p.es;
          shaped = record { whole = u.all; some-whole = u.some; behind = u.behind; letter = p.letter; exponent = p.all; short = p.few };
          cut = resign s ∙ ap (λ (l : List ℕ). sign (minus s) ++ l) (u.cut ∙ ap (λ (l : List ℕ). u.ws ++ (dotted u.fs ++ l)) p.cut);
        })

-- the reader gives what the rule says
on_shape : (s : List ℕ) → Shape s → decimal_read (reader s) ≡ decimal s
on_shape s h = subst (λ (l : List ℕ). decimal_read (reader l) ≡ decimal l) (sym h.cut) (on-text h.neg h.ws h.fs h.c h.below h.es h.shaped)

not_accepted : (s : List ℕ) → accepts float-text s ≡ false → None ≡ decimal s
unfolding decimal
not_accepted s e = rw e

pub reads : (s : List ℕ) → decimal_read (reader s) ≡ decimal s
reads s =
    both (accepts float-text s)
    (λ e. on_shape s (accepted_shape s e))
    (λ e. pick e (reader_cases s))
  where
    pick : accepts float-text s ≡ false → (reader s ≡ None) ⊎ Shape s → decimal_read (reader s) ≡ decimal s
    pick e (inl i) = ap decimal_read i ∙ not_accepted s e
    pick e (inr h) = on_shape s h

-- the returns of `read_decimal` are the reader's
module _ (s : List ℕ) (d : Option DecimalRead) (p : Bool) (has : p ≡ minus s) where
  pub read_below : p ≡ true → d ≡ after_whole true (run 18 0 0 (drop 1 s)) → d ≡ reader s
  read_below t e = let i : after_whole true (run 18 0 0 (drop 1 s)) ≡ reader s = rw (← has, t) in e ∙ i

  pub read_plain : p ≡ false → d ≡ after_whole false (run 18 0 0 (drop 0 s)) → d ≡ reader s
  read_plain t e = let i : after_whole false (run 18 0 0 s) ≡ reader s = rw (← has, t) in e ∙ i

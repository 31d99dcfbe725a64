-- `integer` by digits alone after the sign, and the returns of `read_integer`.
use Rattle.std.specs.Prelude.{Option, None, Some}
use Prim.Native.Nat.{ℕ, ◌+◌, ◌-◌, ◌^◌, ◌≤◌, ◌<◌}
use native.Mathlib.Omega.{arith}
use mathlib.Core.Path.{◌≡◌, refl, sym, ap, subst, ◌∙◌}
use mathlib.Core.List.{List, [], ◌++◌, append-nil}
use mathlib.Core.Bool.{Bool, true, false, cond, ◌&&◌}
use lib.Dec.{leb, ltb}
use lib.ListN.{length, get_or, drop, take, length-drop}
use lib.Seq.{take_all}
use lib.IntN.{ℤ}
use borrow.Author.Tests.{le-leb, lt-leb, leb-true, leb-false, lt-ltb, ltb-true}
use Rattle.abnf.specs.Abnf as A
use Rattle.abnf.specs.Abnf.{no_rules}
use Rattle.abnf.proofs.Lead.{Lead, whole-lead, lead-whole}
use Rattle.numbers.specs.Digits.{is_digit, digits, number}
use Rattle.numbers.specs.Grammar.{DIGIT, integer-text}
use Rattle.abnf.specs.Accepts.{accepts}
use Rattle.numbers.specs.Whole.{signed, minus, stands}
use Rattle.numbers.specs.Integer.{value, is_64_bit, integer}
use Rattle.numbers.specs.Parts.{all_digits, some_digits, natural}
use Rattle.abnf.proofs.Steps.{both, same_test}
use Rattle.abnf.proofs.Accepts.{and_both, accepts-word, word-accepts}
use Rattle.numbers.proofs.Texts.{some-front, front-some, sign, sign-front, front-sign}
use Rattle.numbers.proofs.Signs.{unsigned, first-digit, unsigned-sign, resign, digits-sign, all_digits_lem, between-minus, between-plus, stands-minus, stands-plus}

some-digits : (ds : List ℕ) → all_digits ds ≡ true → 0 < length ds → some_digits ds ≡ true
some-digits ds e l = rw (lt-ltb 0 (length ds) l, e)

digits-some : (ds : List ℕ) → some_digits ds ≡ true → (all_digits ds ≡ true) × (0 < length ds)
digits-some ds e = let p = and_both (ltb 0 (length ds)) (all_digits ds) e in (p.1, ltb-true 0 (length ds) p.0)

lead-digits : (s : List ℕ) → Lead integer-text s [] → some_digits (unsigned s) ≡ true
lead-digits s h =
    let g = sign-front h.1 in
    let d = some-front h.2 in
    let ds = d.front.ds in
    let t : h.0 ≡ ds = d.front.cut ∙ append-nil ds in
    let f : is_digit (get_or ds 0 0) ≡ true = subst (λ (l : List ℕ). is_digit (get_or l 0 0) ≡ true) (append-nil ds) (first-digit ds [] d.front.all d.some) in
    let e : s ≡ sign g.neg ++ ds = g.cut ∙ ap (λ (l : List ℕ). sign g.neg ++ l) t in
    ap some_digits (ap unsigned e ∙ unsigned-sign g.neg ds f) ∙ some-digits ds d.front.all d.some

digits-lead : (neg : Bool) (t : List ℕ) → some_digits t ≡ true → Lead integer-text (sign neg ++ t) []
digits-lead neg t e =
    let p = digits-some t e in
    (t, front-sign neg t, subst (λ (l : List ℕ). Lead (A.some DIGIT) l []) (append-nil t) (front-some t [] p.0 p.1))

text_is : (s : List ℕ) → accepts integer-text s ≡ some_digits (unsigned s)
text_is s =
    same_test (accepts integer-text s) (some_digits (unsigned s))
    (λ e. lead-digits s (whole-lead no_rules 0 integer-text (accepts-word integer-text s e)))
    (λ e. word-accepts integer-text s (lead-whole no_rules 0 integer-text (subst (λ (l : List ℕ). Lead integer-text l []) (sym (resign s)) (digits-lead (minus s) (unsigned s) e))))

value_is : (s : List ℕ) → some_digits (unsigned s) ≡ true → value s ≡ signed (minus s) (number (unsigned s))
unfolding value
value_is s e =
    ap (λ (l : List ℕ). signed (minus s) (number l))
    (ap digits (resign s) ∙ digits-sign (minus s) (unsigned s) ∙ all_digits_lem (unsigned s) (digits-some (unsigned s) e).0)

-- the integer of a text, by its parts
abbrev pub parted : Bool → List ℕ → Option ℤ
parted neg t = cond (some_digits t && is_64_bit (signed neg (number t))) (Some (signed neg (number t))) None

integer_is : (s : List ℕ) → integer s ≡ parted (minus s) (unsigned s)
unfolding integer
integer_is s =
    both (some_digits (unsigned s))
    (λ e. rw (text_is s, e, value_is s e))
    (λ e. rw (text_is s, e))

-- what `natural` answers
natural-number : (t : List ℕ) (m : ℕ) → natural t ≡ Some m → (some_digits t ≡ true) × (number t ≡ m) × (m ≤ 2 ^ 63)
unfolding natural
natural-number t m e = pick (some_digits t) (leb (number t) (2 ^ 63)) refl refl e
  where
    pick : (a b : Bool) → some_digits t ≡ a → leb (number t) (2 ^ 63) ≡ b → cond (a && b) (Some (number t)) None ≡ Some m → (some_digits t ≡ true) × (number t ≡ m) × (m ≤ 2 ^ 63)
    pick true true p q i = let n : number t ≡ m = cc in (p, n, subst (λ (k : ℕ). k ≤ 2 ^ 63) n (leb-true (number t) (2 ^ 63) q))
    pick true false p q i = let z : ◌≡◌ {A = ℕ} 0 1 = cc in absurd (omega arith)
    pick false b p q i = let z : ◌≡◌ {A = ℕ} 0 1 = cc in absurd (omega arith)

natural-none : (t : List ℕ) → natural t ≡ None → (some_digits t && leb (number t) (2 ^ 63)) ≡ false
unfolding natural
natural-none t e = pick (some_digits t && leb (number t) (2 ^ 63)) e
  where
    pick : (b : Bool) → cond b (Some (number t)) None ≡ None → b ≡ false
    pick true i = let z : ◌≡◌ {A = ℕ} 0 1 = cc in absurd (omega arith)
    pick false i = refl

-- a text above 2^63 is above any smaller limit
beyond : (a : Bool) (n : ℕ) → (a && leb n (2 ^ 63)) ≡ false → (a && leb n (2 ^ 63 - 1)) ≡ false
beyond false n e = refl
beyond true n e = lt-leb n (2 ^ 63 - 1) (let l : 2 ^ 63 < n = leb-false n (2 ^ 63) e in omega arith)

parted-minus : (t : List ℕ) → parted true t ≡ cond (some_digits t && leb (number t) (2 ^ 63)) (Some (signed true (number t))) None
parted-minus t = ap (λ (b : Bool). cond (some_digits t && b) (Some (signed true (number t))) None) (between-minus (2 ^ 63) (2 ^ 63 - 1) (number t))

parted-plus : (t : List ℕ) → parted false t ≡ cond (some_digits t && leb (number t) (2 ^ 63 - 1)) (Some (signed false (number t))) None
parted-plus t = ap (λ (b : Bool). cond (some_digits t && b) (Some (signed false (number t))) None) (between-plus (2 ^ 63) (2 ^ 63 - 1) (number t))

module _ (s : List ℕ) (neg : Bool) (r : Option ℕ) (has : neg ≡ minus s) where
  module _ (yes : neg ≡ true) (read : r ≡ natural (take (length s - 1) (drop 1 s))) where
    got : r ≡ natural (drop 1 s)
    got = read ∙ ap natural (take_all (length s - 1) (drop 1 s) (rw (length-drop 1 s) (omega arith)))

    shape-minus : integer s ≡ parted true (drop 1 s)
    shape-minus = integer_is s ∙ rw (← has, yes)

    pub minus-fits : (m : ℕ) → r ≡ Some m → m ≤ 2 ^ 63
    minus-fits m is = (natural-number (drop 1 s) m (sym got ∙ is)).2

    pub minus_number : (m : ℕ) → r ≡ Some m → Some (stands (2 ^ 63) (2 ^ 63 - m)) ≡ integer s
    minus_number m is =
        let p = natural-number (drop 1 s) m (sym got ∙ is) in
        sym (shape-minus ∙ parted-minus (drop 1 s) ∙ rw (p.0, p.1, le-leb m (2 ^ 63) p.2) (ap Some (sym (stands-minus (2 ^ 63) m p.2))))

    pub minus-none : r ≡ None → None ≡ integer s
    minus-none is = sym (shape-minus ∙ parted-minus (drop 1 s) ∙ rw (natural-none (drop 1 s) (sym got ∙ is)))

  module _ (no : neg ≡ false) (got : r ≡ natural s) where
    shape-plus : integer s ≡ parted false s
    shape-plus = integer_is s ∙ rw (← has, no)

    pub plus-number : (m : ℕ) → r ≡ Some m → m < 2 ^ 63 → Some (stands (2 ^ 63) (2 ^ 63 + m)) ≡ integer s
    plus-number m is l =
        let p = natural-number s m (sym got ∙ is) in
        sym (shape-plus ∙ parted-plus s ∙ rw (p.0, p.1, le-leb m (2 ^ 63 - 1) (omega arith)) (ap Some (sym (stands-plus (2 ^ 63) m))))

    pub plus-high : (m : ℕ) → r ≡ Some m → 2 ^ 63 ≤ m → None ≡ integer s
    plus-high m is l =
        let p = natural-number s m (sym got ∙ is) in
        sym (shape-plus ∙ parted-plus s ∙ rw (p.0, p.1, lt-leb m (2 ^ 63 - 1) (omega arith)))

    pub plus_none : r ≡ None → None ≡ integer s
    plus_none is = sym (shape-plus ∙ parted-plus s ∙ rw (beyond (some_digits s) (number s) (natural-none s (sym got ∙ is))))

-- What the rules say of a float's text, by its parts.
use Rattle.std.specs.Prelude.{None, Some}
use Prim.Native.Nat.{ℕ, ◌≤◌, ◌<◌}
use native.Mathlib.Omega.{arith}
use mathlib.Core.Path.{◌≡◌, refl, sym, ap, ◌∙◌}
use mathlib.Core.List.{List, [], ◌∷◌, ◌++◌, append-nil}
use mathlib.Core.Bool.{Bool, true, false, cond, ◌&&◌, false≢true}
use lib.Dec.{leb, eqb}
use lib.ListN.{length, get_or}
use lib.IntN.{ℤ, pos, neg_ℤ, ◌-ℤ◌}
use borrow.Author.Tests.{ne_eqb}
use Rattle.abnf.proofs.Lead.{Lead, whole-lead, lead-whole}
use Rattle.abnf.specs.Accepts.{accepts}
use Rattle.numbers.specs.Digits.{is_digit, digits, numeral, number}
use Rattle.numbers.specs.Grammar.{float-text}
use Rattle.numbers.specs.Whole.{signed, minus, between}
use Rattle.numbers.specs.Decimal.{before, after, is_dot, is_e, significant, fraction, power, decimal}
use Rattle.numbers.specs.Parts.{all_digits}
use Rattle.abnf.specs.Abnf.{no_rules}
use Rattle.abnf.proofs.Steps.{both}
use Rattle.abnf.proofs.Accepts.{accepts-word, word-accepts}
use Rattle.numbers.proofs.Texts.{some-front, front-some, sign, sign-front, front-sign, dotted, dot-front, front-dot, powered, power-front, front-power, digit_is, uncons-digits}
use Rattle.numbers.proofs.Signs.{first-digit, minus-sign, digits-sign, all_digits_lem}

-- a float's text: sign, digits, the digits behind a dot, and an exponent's letter, sign and digits
abbrev pub text : Bool → List ℕ → List ℕ → ℕ → Bool → List ℕ → List ℕ
text neg ws fs c below es = sign neg ++ (ws ++ (dotted fs ++ powered c below es))

pub record Shaped (ws fs : List ℕ) (c : ℕ) (es : List ℕ) : Type 0 where
  pub whole : all_digits ws ≡ true
  pub some-whole : 0 < length ws
  pub behind : all_digits fs ≡ true
  pub letter : is_e c ≡ true
  pub exponent : all_digits es ≡ true
  pub short : length es ≤ 3

pub record Shape (s : List ℕ) : Type 0 where
  pub neg : Bool
  pub ws : List ℕ
  pub fs : List ℕ
  pub c : ℕ
  pub below : Bool
  pub es : List ℕ
  pub shaped : Shaped ws fs c es
  pub cut : s ≡ text neg ws fs c below es

lead_shape : (s : List ℕ) → Lead float-text s [] → Shape s
lead_shape s h =
    let n = sign-front h.1 in
    let w = some-front h.2.1 in
    let f = dot-front h.2.2.1 in
    let p = power-front h.2.2.2 in
    record {
      neg = n.neg;
      ws = w.front.ds;
      fs = f.fs;
      c = p.c;
      below = p.neg;
      es = p.es;
      shaped = record { whole = w.front.all; some-whole = w.some; behind = f.all; letter = p.letter; exponent = p.all; short = p.few };
      cut = n.cut ∙ ap (λ (l : List ℕ). sign n.neg ++ l) (w.front.cut ∙ ap (λ (l : List ℕ). w.front.ds ++ l) (f.cut ∙ ap (λ (l : List ℕ). dotted f.fs ++ l) p.cut));
    }

pub accepted_shape : (s : List ℕ) → accepts float-text s ≡ true → Shape s
accepted_shape s e = lead_shape s (whole-lead no_rules 0 float-text (accepts-word float-text s e))

-- texts without a byte of a kind
abbrev Free : (ℕ → Bool) → List ℕ → Type 0
Free p [] = Unit {0}
Free p (b ∷ l) = (p b ≡ false) × Free p l

before-free : (p : ℕ → Bool) (l r : List ℕ) → Free p l → before p (l ++ r) ≡ l ++ before p r
unfolding before
before-free p [] r h = refl
before-free p (b ∷ l) r h = rw h.0 (ap (λ (t : List ℕ). b ∷ t) (before-free p l r h.1))

after_free : (p : ℕ → Bool) (l r : List ℕ) → Free p l → after p (l ++ r) ≡ after p r
unfolding after
after_free p [] r h = refl
after_free p (b ∷ l) r h = rw h.0 (after_free p l r h.1)

not-e : (b : ℕ) → is_digit b ≡ true → is_e b ≡ false
not-e b e =
    let p = digit_is b e in
    let l = p.0 in
    let u = p.1 in
    rw (ne_eqb b 101 (λ i. omega arith), ne_eqb b 69 (λ i. omega arith))

not-dot : (b : ℕ) → is_digit b ≡ true → is_dot b ≡ false
not-dot b e = let p = digit_is b e in let l = p.0 in ne_eqb b 46 (λ i. omega arith)

-- the letter of an exponent is neither digit nor dot
pub e_no-digit : (c : ℕ) → is_e c ≡ true → is_digit c ≡ false
e_no-digit c i = both (is_digit c) (λ e. absurd (false≢true (sym (not-e c e) ∙ i))) (λ e. e)

pub e_no-dot : (c : ℕ) → is_e c ≡ true → eqb c 46 ≡ false
e_no-dot c i = ne_eqb c 46 (λ e. absurd (false≢true (ap is_e (sym e) ∙ i)))

free-digits : (p : ℕ → Bool) → ((b : ℕ) → is_digit b ≡ true → p b ≡ false) → (ds : List ℕ) → all_digits ds ≡ true → Free p ds
free-digits p f [] e = tt
free-digits p f (b ∷ ds) e = let q = uncons-digits b ds e in (f b q.0, free-digits p f ds q.1)

digits_append : (l r : List ℕ) → digits (l ++ r) ≡ digits l ++ digits r
unfolding digits
digits_append [] r = refl
digits_append (b ∷ l) r = both (is_digit b) (λ e. rw e (ap (λ (t : List ℕ). b ∷ t) (digits_append l r))) (λ e. rw e (digits_append l r))

sign-free : (p : ℕ → Bool) (neg : Bool) → p 45 ≡ false → Free p (sign neg)
sign-free p true e = (e, tt)
sign-free p false e = tt

-- the dot and what follows
dot-free : (fs : List ℕ) → all_digits fs ≡ true → Free is_e (dotted fs)
dot-free [] e = tt
dot-free (f ∷ fs) e = (refl, free-digits is_e not-e (f ∷ fs) e)

digits-dotted : (fs : List ℕ) → all_digits fs ≡ true → digits (dotted fs ++ []) ≡ fs
unfolding digits
digits-dotted [] e = refl
digits-dotted (f ∷ fs) e = ap digits (append-nil (f ∷ fs)) ∙ all_digits_lem (f ∷ fs) e

after-dotted : (fs : List ℕ) → after is_dot (dotted fs ++ []) ≡ fs
unfolding after
after-dotted [] = refl
after-dotted (f ∷ fs) = append-nil (f ∷ fs)

-- the exponent
abbrev pub tail : Bool → List ℕ → List ℕ
tail below [] = []
tail below (e ∷ es) = sign below ++ (e ∷ es)

abbrev pub exponent : Bool → List ℕ → ℤ
exponent below [] = pos 0
exponent below (e ∷ es) = signed below (number (e ∷ es))

module _ (c : ℕ) (below : Bool) (i : is_e c ≡ true) where
  before-powered : (es : List ℕ) → before is_e (powered c below es) ≡ []
  unfolding before
  before-powered [] = refl
  before-powered (e ∷ es) = rw i

  after-powered : (es : List ℕ) → after is_e (powered c below es) ≡ tail below es
  unfolding after
  after-powered [] = refl
  after-powered (e ∷ es) = rw i

signed-tail : (below : Bool) (es : List ℕ) → all_digits es ≡ true → signed (minus (tail below es)) (number (digits (tail below es))) ≡ exponent below es
unfolding digits numeral
signed-tail below [] a = refl
signed-tail below (e ∷ es) a =
    ap (λ (b : Bool). signed b (number (digits (sign below ++ (e ∷ es))))) (minus-sign below (e ∷ es) (uncons-digits e es a).0)
    ∙ ap (λ (l : List ℕ). signed below (number l)) (digits-sign below (e ∷ es) ∙ all_digits_lem (e ∷ es) a)

module _ (neg : Bool) (ws fs : List ℕ) (c : ℕ) (below : Bool) (es : List ℕ) (h : Shaped ws fs c es) where
  shape-lead : Lead float-text (text neg ws fs c below es) []
  shape-lead =
      (ws ++ (dotted fs ++ powered c below es), front-sign neg (ws ++ (dotted fs ++ powered c below es)), (dotted fs ++ powered c below es, front-some ws (dotted fs ++ powered c below es) h.whole h.some-whole, (powered c below es, front-dot fs (powered c below es) h.behind, front-power c below es h.letter h.exponent h.short)))

  pub shape-accepts : accepts float-text (text neg ws fs c below es) ≡ true
  shape-accepts = word-accepts float-text (text neg ws fs c below es) (lead-whole no_rules 0 float-text shape-lead)

  before_is : before is_e (text neg ws fs c below es) ≡ sign neg ++ (ws ++ (dotted fs ++ []))
  before_is =
      before-free is_e (sign neg) (ws ++ (dotted fs ++ powered c below es)) (sign-free is_e neg refl)
      ∙ ap (λ (l : List ℕ). sign neg ++ l)
      (before-free is_e ws (dotted fs ++ powered c below es) (free-digits is_e not-e ws h.whole)
      ∙ ap (λ (l : List ℕ). ws ++ l) (before-free is_e (dotted fs) (powered c below es) (dot-free fs h.behind) ∙ ap (λ (l : List ℕ). dotted fs ++ l) (before-powered c below h.letter es)))

  pub significant_is : significant (text neg ws fs c below es) ≡ ws ++ fs
  unfolding significant
  significant_is =
      ap digits before_is
      ∙ digits-sign neg (ws ++ (dotted fs ++ []))
      ∙ digits_append ws (dotted fs ++ [])
      ∙ ap (λ (l : List ℕ). l ++ digits (dotted fs ++ [])) (all_digits_lem ws h.whole)
      ∙ ap (λ (l : List ℕ). ws ++ l) (digits-dotted fs h.behind)

  pub fraction_is : fraction (text neg ws fs c below es) ≡ fs
  unfolding fraction
  fraction_is =
      ap (λ (l : List ℕ). digits (after is_dot l)) before_is
      ∙ ap digits
      (after_free is_dot (sign neg) (ws ++ (dotted fs ++ [])) (sign-free is_dot neg refl)
      ∙ after_free is_dot ws (dotted fs ++ []) (free-digits is_dot not-dot ws h.whole)
      ∙ after-dotted fs)
      ∙ all_digits_lem fs h.behind

  pub after_is : after is_e (text neg ws fs c below es) ≡ tail below es
  after_is =
      after_free is_e (sign neg) (ws ++ (dotted fs ++ powered c below es)) (sign-free is_e neg refl)
      ∙ after_free is_e ws (dotted fs ++ powered c below es) (free-digits is_e not-e ws h.whole)
      ∙ after_free is_e (dotted fs) (powered c below es) (dot-free fs h.behind)
      ∙ after-powered c below h.letter es

  pub power_is : power (text neg ws fs c below es) ≡ exponent below es
  unfolding power
  power_is = ap (λ (l : List ℕ). signed (minus l) (number (digits l))) after_is ∙ signed-tail below es h.exponent

  pub starts : is_digit (get_or (ws ++ (dotted fs ++ powered c below es)) 0 0) ≡ true
  starts = first-digit ws (dotted fs ++ powered c below es) h.whole h.some-whole

  pub decimal_is : decimal (text neg ws fs c below es) ≡ cond (leb (length (ws ++ fs)) 18 && between (neg_ℤ (pos 280)) (pos 280) (exponent below es)) (Some (record { negative = neg; mantissa = number (ws ++ fs); exponent = exponent below es -ℤ pos (length fs) })) None
  unfolding decimal
  decimal_is =
      rw (shape-accepts, significant_is, fraction_is, power_is, minus-sign neg (ws ++ (dotted fs ++ powered c below es)) starts)

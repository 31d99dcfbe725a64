-- The shape that a step asks for, on a text by its parts, and what it is in billionths.
use Rattle.std.specs.Prelude.{None, Some}
use Prim.Native.Nat.{ℕ, ◌-◌, ◌*◌, ◌^◌, ◌≤◌}
use native.Mathlib.Omega.{arith}
use mathlib.Core.Path.{◌≡◌, refl, sym, ap, ◌∙◌}
use mathlib.Core.List.{List, [], ◌∷◌, ◌++◌}
use mathlib.Core.Bool.{Bool, true, false, cond, ◌&&◌}
use lib.Dec.{leb}
use lib.ListN.{length, length-append}
use borrow.Author.Tests.{le-leb, leb-true}
use Rattle.abnf.specs.Abnf.{no_rules}
use Rattle.abnf.specs.Accepts.{accepts, is_empty}
use Rattle.abnf.proofs.Lead.{Lead, whole-lead, lead-whole}
use Rattle.abnf.proofs.Accepts.{and_both, accepts-word, word-accepts}
use Rattle.abnf.proofs.Steps.{same_test}
use Rattle.numbers.specs.Digits.{number}
use Rattle.numbers.specs.Grammar.{fixed-text}
use Rattle.numbers.specs.Whole.{signed}
use Rattle.numbers.specs.Decimal.{after, is_e, significant, fraction}
use Rattle.numbers.specs.Billionths.{in_billionths, billionths}
use Rattle.numbers.specs.Parts.{are_few}
use Rattle.numbers.proofs.Texts.{sign, sign-front, front-sign, one-front, front-one, dotted, dot-few, few-dot, powered, no-digits}
use Rattle.numbers.proofs.Signs.{minus-sign}
use Rattle.numbers.proofs.FloatText.{text, Shaped, tail, starts, significant_is, fraction_is, after_is}

-- a text of the shape is one of a float without exponent
pub record Fixed (s : List ℕ) : Type 0 where
  pub neg : Bool
  pub ws : List ℕ
  pub fs : List ℕ
  pub shaped : Shaped ws fs 101 []
  pub few-whole : length ws ≤ 9
  pub few-behind : length fs ≤ 9
  pub cut : s ≡ text neg ws fs 101 false []

lead_fixed : (s : List ℕ) → Lead fixed-text s [] → Fixed s
lead_fixed s h =
    let n = sign-front h.1 in
    let w = one-front 8 h.2.1 in
    let f = dot-few h.2.2 in
    record {
      neg = n.neg;
      ws = w.front.ds;
      fs = f.dot.fs;
      shaped = record { whole = w.front.all; some-whole = w.some; behind = f.dot.all; letter = refl; exponent = no-digits; short = omega arith };
      few-whole = w.few;
      few-behind = f.few;
      cut = n.cut ∙ ap (λ (l : List ℕ). sign n.neg ++ l) (w.front.cut ∙ ap (λ (l : List ℕ). w.front.ds ++ l) f.dot.cut);
    }

pub accepted_fixed : (s : List ℕ) → accepts fixed-text s ≡ true → Fixed s
accepted_fixed s e = lead_fixed s (whole-lead no_rules 0 fixed-text (accepts-word fixed-text s e))

tail_none : (below : Bool) (es : List ℕ) → tail below es ≡ [] → is_empty es ≡ true
unfolding is_empty
tail_none below [] e = refl
tail_none true (b ∷ es) e = let z : ◌≡◌ {A = ℕ} 0 1 = cc in absurd (omega arith)
tail_none false (b ∷ es) e = let z : ◌≡◌ {A = ℕ} 0 1 = cc in absurd (omega arith)

module _ (neg : Bool) (ws fs : List ℕ) (c : ℕ) (below : Bool) (es : List ℕ) (h : Shaped ws fs c es) where
  -- the parts of a text are its own
  parts : Fixed (text neg ws fs c below es) → (is_empty es ≡ true) × (length ws ≤ 9) × (length fs ≤ 9)
  parts f =
      let e : tail below es ≡ [] = sym (after_is neg ws fs c below es h) ∙ ap (after is_e) f.cut ∙ after_is f.neg f.ws f.fs 101 false [] f.shaped in
      let p : fs ≡ f.fs = sym (fraction_is neg ws fs c below es h) ∙ ap fraction f.cut ∙ fraction_is f.neg f.ws f.fs 101 false [] f.shaped in
      let q : ws ++ fs ≡ f.ws ++ f.fs = sym (significant_is neg ws fs c below es h) ∙ ap significant f.cut ∙ significant_is f.neg f.ws f.fs 101 false [] f.shaped in
      let l = f.few-whole in
      let k = f.few-behind in
      (tail_none below es e, omega (arith, ap length p, sym (length-append ws fs) ∙ ap length q ∙ length-append f.ws f.fs), omega (arith, ap length p))

  few-true : (length ws ≤ 9) × (length fs ≤ 9) → are_few (length ws) (length fs) ≡ true
  few-true p = rw (le-leb (length ws) 9 p.0, le-leb (length fs) 9 p.1)

  true-few : are_few (length ws) (length fs) ≡ true → (length ws ≤ 9) × (length fs ≤ 9)
  true-few e = let p = and_both (leb (length ws) 9) (leb (length fs) 9) e in (leb-true (length ws) 9 p.0, leb-true (length fs) 9 p.1)

  to : accepts fixed-text (text neg ws fs c below es) ≡ true → (is_empty es && are_few (length ws) (length fs)) ≡ true
  to e = let p = parts (accepted_fixed (text neg ws fs c below es) e) in rw p.0 (few-true (p.1, p.2))

whole_fixed : (neg : Bool) (ws fs : List ℕ) (c : ℕ) (below : Bool) (es : List ℕ) → Shaped ws fs c es → is_empty es ≡ true → (length ws ≤ 9) × (length fs ≤ 9) → accepts fixed-text (text neg ws fs c below es) ≡ true
unfolding is_empty
whole_fixed neg ws fs c below [] h e l =
    word-accepts fixed-text (text neg ws fs c below [])
    (lead-whole no_rules 0 fixed-text
    (ws ++ (dotted fs ++ []), front-sign neg (ws ++ (dotted fs ++ [])), (dotted fs ++ [], front-one 8 ws (dotted fs ++ []) h.whole h.some-whole l.0, few-dot fs [] h.behind l.1)))
whole_fixed neg ws fs c below (b ∷ es) h e l = let z : ◌≡◌ {A = ℕ} 0 1 = cc in absurd (omega arith)

module _ (neg : Bool) (ws fs : List ℕ) (c : ℕ) (below : Bool) (es : List ℕ) (h : Shaped ws fs c es) where
  fixed_is : accepts fixed-text (text neg ws fs c below es) ≡ (is_empty es && are_few (length ws) (length fs))
  fixed_is = same_test _ _ (to neg ws fs c below es h)
      (λ e. let p = and_both (is_empty es) (are_few (length ws) (length fs)) e in whole_fixed neg ws fs c below es h p.0 (true-few neg ws fs c below es h p.1))

  pub in-billionths_is : in_billionths (text neg ws fs c below es) ≡ signed neg (number (ws ++ fs) * 10 ^ (9 - length fs))
  unfolding in_billionths
  in-billionths_is = rw (significant_is neg ws fs c below es h, fraction_is neg ws fs c below es h, minus-sign neg (ws ++ (dotted fs ++ powered c below es)) (starts neg ws fs c below es h))

  pub billionths_is : billionths (text neg ws fs c below es) ≡ cond (is_empty es && are_few (length ws) (length fs)) (Some (signed neg (number (ws ++ fs) * 10 ^ (9 - length fs)))) None
  unfolding billionths
  billionths_is = rw (fixed_is, in-billionths_is)

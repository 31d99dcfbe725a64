-- What the reader of decimals says of the shape comes to the rule.
use Rattle.std.specs.Prelude.{None, Some, Option}
use Prim.Native.Nat.{ℕ, ◌+◌, ◌-◌, ◌*◌, ◌^◌, ◌≤◌, ◌<◌}
use native.Mathlib.Omega.{arith}
use native.Mathlib.Decide.{dec_le}
use mathlib.Core.Path.{◌≡◌, refl, sym, ap, subst, ◌∙◌}
use mathlib.Core.Logic.{◌⊎◌, inl, inr}
use mathlib.Core.List.{List, [], ◌∷◌, ◌++◌}
use mathlib.Core.Bool.{Bool, true, false, cond, ◌&&◌}
use lib.Dec.{leb, ltb, eqb}
use lib.ListN.{length, drop}
use borrow.Author.Tests.{le-leb, lt-leb}
use Rattle.numbers.specs.declared.decimals.DecimalRead.{DecimalRead}
use Rattle.abnf.specs.Accepts.{accepts, is_empty}
use Rattle.abnf.proofs.Steps.{both}
use Rattle.numbers.specs.Digits.{number}
use Rattle.numbers.specs.Grammar.{fixed-text}
use Rattle.numbers.specs.Whole.{signed, minus}
use Rattle.numbers.specs.Decimal.{is_e, decimal, decimal_read}
use Rattle.numbers.specs.Billionths.{billionths, billionths_read}
use Rattle.numbers.specs.Parts.{Found, found, over, run, after_power, after_digits, are_few, ending, after_whole}
use Rattle.numbers.proofs.Texts.{dotted, powered}
use Rattle.numbers.proofs.FloatText.{text, Shaped, Shape}
use Rattle.numbers.proofs.FloatReading.{reader, reader-sign, short, long, reader_cases, reads, read_below, read_plain}
use Rattle.numbers.proofs.FixedText.{accepted_fixed, billionths_is}

module _ (neg : Bool) (m f : ℕ) where
  -- with an exponent there are none
  powered-none : (below : Bool) (r : Found) → billionths_read (after_power neg m f below r) ≡ None
  unfolding after_power
  powered-none below (found e n []) = both (ltb 0 n && leb e 280) (λ t. rw t) (λ t. rw t)
  powered-none below (found e n (b ∷ s)) = refl
  powered-none below over = refl

  ended : (n c : ℕ) (below : Bool) (es : List ℕ) → is_e c ≡ true → billionths_read (ending neg m n f (powered c below es)) ≡ cond (is_empty es && are_few n f) (Some (signed neg (m * 10 ^ (9 - f)))) None
  unfolding ending after_digits is_empty
  ended n c below [] i = ap (λ (k : ℕ). cond (are_few n f) (Some (signed neg (m * 10 ^ k))) None) (let e : 300 - f - 291 ≡ 9 - f = omega arith in e)
  ended n c true (e ∷ es) i = rw i (powered-none true _)
  ended n c false (e ∷ es) i = rw i (both (eqb e 45) (λ t. rw t (powered-none true _)) (λ t. rw t (powered-none false _)))

not-few : (n f : ℕ) → 18 < n + f → are_few n f ≡ false
not-few n f h = pick (dec_le n 9)
  where
    pick : Dec (n ≤ 9) → are_few n f ≡ false
    pick (yes l) = rw (le-leb n 9 l) (lt-leb f 9 (omega arith))
    pick (no l) = rw (lt-leb n 9 (omega arith))

on-text : (neg : Bool) (ws fs : List ℕ) (c : ℕ) (below : Bool) (es : List ℕ) → Shaped ws fs c es → billionths_read (reader (text neg ws fs c below es)) ≡ billionths (text neg ws fs c below es)
on-text neg ws fs c below es h =
    ap billionths_read (reader-sign neg ws fs c below es h) ∙ pick (dec_le (length ws + length fs) 18) ∙ sym (billionths_is neg ws fs c below es h)
  where
    pick : Dec (length ws + length fs ≤ 18) → billionths_read (after_whole neg (run 18 0 0 (ws ++ (dotted fs ++ powered c below es)))) ≡ cond (is_empty es && are_few (length ws) (length fs)) (Some (signed neg (number (ws ++ fs) * 10 ^ (9 - length fs)))) None
    pick (yes l) = ap billionths_read (short neg ws c below es fs h l) ∙ ended neg (number (ws ++ fs)) (length fs) (length ws) c below es h.letter
    pick (no l) = ap billionths_read (long neg ws c below es fs h (omega arith)) ∙ rw (not-few (length ws) (length fs) (omega arith)) (both (is_empty es) (λ t. rw t) (λ t. rw t))

on_shape : (s : List ℕ) → Shape s → billionths_read (reader s) ≡ billionths s
on_shape s h = subst (λ (l : List ℕ). billionths_read (reader l) ≡ billionths l) (sym h.cut) (on-text h.neg h.ws h.fs h.c h.below h.es h.shaped)

not_accepted : (s : List ℕ) → accepts fixed-text s ≡ false → None ≡ billionths s
unfolding billionths
not_accepted s e = rw e

pub reads-billionths : (s : List ℕ) → billionths_read (reader s) ≡ billionths s
reads-billionths s =
    both (accepts fixed-text s)
    (λ e. let f = accepted_fixed s e in on_shape s (record { neg = f.neg; ws = f.ws; fs = f.fs; c = 101; below = false; es = []; shaped = f.shaped; cut = f.cut }))
    (λ e. pick e (reader_cases s))
  where
    pick : accepts fixed-text s ≡ false → (reader s ≡ None) ⊎ Shape s → billionths_read (reader s) ≡ billionths s
    pick e (inl i) = ap billionths_read i ∙ not_accepted s e
    pick e (inr h) = on_shape s h

-- the returns of `read_decimal`
module _ (s : List ℕ) (d : Option DecimalRead) (p : Bool) (has : p ≡ minus s) where
  pub below-zero : p ≡ true → d ≡ after_whole true (run 18 0 0 (drop 1 s)) → decimal_read d ≡ decimal s
  below-zero t e = ap decimal_read (read_below s d p has t e) ∙ reads s

  pub not-below : p ≡ false → d ≡ after_whole false (run 18 0 0 (drop 0 s)) → decimal_read d ≡ decimal s
  not-below t e = ap decimal_read (read_plain s d p has t e) ∙ reads s

  pub fixed-below : p ≡ true → d ≡ after_whole true (run 18 0 0 (drop 1 s)) → billionths_read d ≡ billionths s
  fixed-below t e = ap billionths_read (read_below s d p has t e) ∙ reads-billionths s

  pub fixed_plain : p ≡ false → d ≡ after_whole false (run 18 0 0 (drop 0 s)) → billionths_read d ≡ billionths s
  fixed_plain t e = ap billionths_read (read_plain s d p has t e) ∙ reads-billionths s

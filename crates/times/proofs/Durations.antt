-- The code's three spans of a duration are the grammar.
use Prim.Native.Nat.{ℕ, ◌+◌, ◌<◌, ◌≤◌}
use native.Mathlib.Omega.{arith}
use mathlib.Core.Path.{◌≡◌, refl, sym, ap, ◌∙◌}
use mathlib.Core.List.{List}
use mathlib.Core.Bool.{Bool, true, false, not, ◌&&◌, ◌||◌, and-false, or-false}
use lib.ListN.{length, drop}
use lib.Dec.{leb, eqb, lit<}
use borrow.Author.Tests.{leb-true, ne_eqb, eqb-true}
use Rattle.abnf.specs.Abnf.{◌·◌, ◌//◌, x, opt}
use Rattle.abnf.specs.Accepts.{is_empty, starts}
use Rattle.abnf.proofs.Accepts.{and_both}
use Rattle.abnf.proofs.Steps.{both, range-true, below_range, starts-x, starts_either, starts-opt, empty_at}
use Rattle.times.specs.Duration.{amount, hours, minutes, seconds, is_duration}
use Rattle.times.specs.Parts.{byte_at, digits, span_end}
use Rattle.times.proofs.Bytes.{byte_past, digits-most}
use Rattle.times.proofs.Chains.{none, some}
use Rattle.times.proofs.Runs.{NoDigit, starts-run}

-- the code's answers
module _ (s : List ℕ) (at letter : ℕ) {e : ℕ} (p : e ≡ at + digits 9 (drop at s)) where
  pub span_none : e ≡ at → at ≡ span_end s at letter
  unfolding span_end
  span_none q = rw (none at (digits 9 (drop at s)) p q)

  pub span_is : {r : Bool} → (e ≡ at → ⊥) → r ≡ eqb (byte_at s e) letter → r ≡ true → e + 1 ≡ span_end s at letter
  unfolding span_end
  span_is q h t =
      let l : eqb (byte_at s (at + digits 9 (drop at s))) letter ≡ true = ap (λ (n : ℕ). eqb (byte_at s n) letter) (sym p) ∙ sym h ∙ t in
      rw (some at (digits 9 (drop at s)) p q, l) (omega arith)

  pub span-other : {r : Bool} → (e ≡ at → ⊥) → r ≡ eqb (byte_at s e) letter → r ≡ false → at ≡ span_end s at letter
  unfolding span_end
  span-other q h t =
      let l : eqb (byte_at s (at + digits 9 (drop at s))) letter ≡ false = ap (λ (n : ℕ). eqb (byte_at s n) letter) (sym p) ∙ sym h ∙ t in
      rw (some at (digits 9 (drop at s)) p q, l)

-- whether a span is there
there : List ℕ → ℕ → ℕ → Bool
there s at letter = not (eqb (digits 9 (drop at s)) 0) && eqb (byte_at s (at + digits 9 (drop at s))) letter

end-there : (s : List ℕ) (at letter : ℕ) → there s at letter ≡ true → span_end s at letter ≡ at + digits 9 (drop at s) + 1
unfolding there span_end
end-there s at letter e = rw e

end_none : (s : List ℕ) (at letter : ℕ) → there s at letter ≡ false → span_end s at letter ≡ at
unfolding there span_end
end_none s at letter e = rw e

pub end-most : (s : List ℕ) (at letter : ℕ) → (at ≤ span_end s at letter) × (span_end s at letter ≤ at + 10)
end-most s at letter =
    both (there s at letter)
    (λ e. (omega (arith, end-there s at letter e), omega (arith, end-there s at letter e, digits-most 9 (drop at s))))
    (λ e. (omega (arith, end_none s at letter e), omega (arith, end_none s at letter e)))

-- one span and then k
x_no-digit : (letter : ℕ) → 57 < letter → (k : List ℕ → Bool) → NoDigit (starts (x letter) k)
unfolding starts
x_no-digit letter h k b r e = let q = range-true 48 57 b e in rw (below_range letter letter b (omega arith), starts)

starts-span : (letter : ℕ) → 57 < letter → letter < 256 → (k : List ℕ → Bool) (s : List ℕ) (at : ℕ) → starts (amount letter) k (drop at s) ≡ (there s at letter && k (drop (span_end s at letter) s))
unfolding starts there
starts-span letter h g k s at =
    let n = digits 9 (drop at s) in
    starts-run 8 (starts (x letter) k) (x_no-digit letter h k) (drop at s)
    ∙ ap (λ (t : Bool). not (eqb n 0) && t)
    (ap (λ (l : List ℕ). starts (x letter) k l) (lib.Seq.drop-drop n at s) ∙ starts-x k s (at + n) letter g)
    ∙ regroup (not (eqb n 0)) (eqb (byte_at s (at + n)) letter) (λ e. ap (λ (n : ℕ). k (drop n s)) (sym (end-there s at letter e)))
  where
    regroup : (a b : Bool) {u v : Bool} → ((a && b) ≡ true → u ≡ v) → (a && (b && u)) ≡ ((a && b) && v)
    regroup true true h = h refl
    regroup true false h = refl
    regroup false b h = refl

-- where one span is, no other is, and the text goes on
other-letter : (s : List ℕ) (at l m : ℕ) → (l ≡ m → ⊥) → there s at l ≡ true → there s at m ≡ false
unfolding there
other-letter s at l m d e =
    let n = digits 9 (drop at s) in
    let p = and_both (not (eqb n 0)) (eqb (byte_at s (at + n)) l) e in
    let q = eqb-true (byte_at s (at + n)) l p.1 in
    rw (ne_eqb (byte_at s (at + n)) m (λ z. d (sym q ∙ z))) (and-false (not (eqb n 0)))

more-there : (s : List ℕ) (at l : ℕ) → l < 256 → there s at l ≡ true → leb (length s) at ≡ false
unfolding there
more-there s at l h e =
    let n = digits 9 (drop at s) in
    let p = and_both (not (eqb n 0)) (eqb (byte_at s (at + n)) l) e in
    let q = eqb-true (byte_at s (at + n)) l p.1 in
    both (leb (length s) at)
    (λ z. absurd (omega (arith, leb-true (length s) at z, byte_past s (at + n) (omega (arith, leb-true (length s) at z)))))
    (λ z. z)

and_on : (t : Bool) {u v : Bool} → u ≡ v → (t && u) ≡ (t && v)
and_on t e = ap (λ (b : Bool). t && b) e

or_of : {t u v w : Bool} → t ≡ v → u ≡ w → (t || u) ≡ (v || w)
or_of {t} {u} {v} {w} e f = ap (λ (b : Bool). b || u) e ∙ ap (λ (b : Bool). v || b) f

module _ (s : List ℕ) where
  -- an optional span before the end of the text
  ends : (at letter : ℕ) → 57 < letter → letter < 256 → starts (opt (amount letter)) is_empty (drop at s) ≡ leb (length s) (span_end s at letter)
  ends at letter h g =
      starts-opt (amount letter) is_empty (drop at s)
      ∙ or_of (starts-span letter h g is_empty s at ∙ and_on (there s at letter) (empty_at s (span_end s at letter))) (empty_at s at)
      ∙ both (there s at letter)
      (λ e. rw (e, more-there s at letter g e) (or-false (leb (length s) (span_end s at letter))))
      (λ e. rw (e, end_none s at letter e))

  -- the same before another optional span
  ends-two : (at l m : ℕ) → 57 < l → l < 256 → 57 < m → m < 256 → (l ≡ m → ⊥) → starts (opt (amount l) · opt (amount m)) is_empty (drop at s) ≡ leb (length s) (span_end s (span_end s at l) m)
  unfolding starts
  ends-two at l m hl gl hm gm d =
      starts-opt (amount l) (starts (opt (amount m)) is_empty) (drop at s)
      ∙ or_of (starts-span l hl gl (starts (opt (amount m)) is_empty) s at ∙ and_on (there s at l) (ends (span_end s at l) m hm gm)) (ends at m hm gm)
      ∙ both (there s at l)
      (λ e.
      let z : leb (length s) (span_end s at m) ≡ false = ap (λ (n : ℕ). leb (length s) n) (end_none s at m (other-letter s at l m d e)) ∙ more-there s at l gl e in
      rw (e, z) (or-false (leb (length s) (span_end s (span_end s at l) m))))
      (λ e. rw (e, end_none s at l e))

-- the end of the three spans
past : List ℕ → ℕ
past s = span_end s (span_end s (span_end s 2 72) 77) 83

-- which of the three stands first
first-span : (s : List ℕ)
    → ((there s 2 72 && leb (length s) (past s))
    || ((there s 2 77 && leb (length s) (span_end s (span_end s 2 77) 83))
    || (there s 2 83 && leb (length s) (span_end s 2 83))))
    ≡ (not (eqb (past s) 2) && leb (length s) (past s))
unfolding past
first-span s =
    both (there s 2 72)
    (λ h.
    let n : eqb (past s) 2 ≡ false = ne_eqb (past s) 2 (λ z. omega (arith, end-there s 2 72 h, (end-most s (span_end s 2 72) 77).0, (end-most s (span_end s (span_end s 2 72) 77) 83).0)) in
    rw (h, other-letter s 2 72 77 (λ z. omega arith) h, other-letter s 2 72 83 (λ z. omega arith) h, n) (or-false (leb (length s) (past s))))
    (λ h. rw (h, end_none s 2 72 h)
    (both (there s 2 77)
    (λ m.
    let n : eqb (span_end s (span_end s 2 77) 83) 2 ≡ false = ne_eqb (span_end s (span_end s 2 77) 83) 2 (λ z. omega (arith, end-there s 2 77 m, (end-most s (span_end s 2 77) 83).0)) in
    rw (m, other-letter s 2 77 83 (λ z. omega arith) m, n) (or-false (leb (length s) (span_end s (span_end s 2 77) 83))))
    (λ m. rw (m, end_none s 2 77 m)
    (both (there s 2 83)
    (λ e. let n : eqb (span_end s 2 83) 2 ≡ false = ne_eqb (span_end s 2 83) 2 (λ z. omega (arith, end-there s 2 83 e)) in rw (e, n))
    (λ e. rw (e, end_none s 2 83 e))))))

pub duration_reads : (s : List ℕ) → is_duration s
    ≡ (eqb (byte_at s 0) 80
    && (eqb (byte_at s 1) 84
    && (not (eqb (span_end s (span_end s (span_end s 2 72) 77) 83) 2) && leb (length s) (span_end s (span_end s (span_end s 2 72) 77) 83))))
unfolding is_duration starts past
duration_reads s =
    starts-x (λ r. starts (x 84 · (hours · opt minutes · opt seconds // minutes · opt seconds // seconds)) is_empty r) s 0 80 (lit< tt)
    ∙ and_on (eqb (byte_at s 0) 80)
    (starts-x (λ r. starts (hours · opt minutes · opt seconds // minutes · opt seconds // seconds) is_empty r) s 1 84 (lit< tt)
    ∙ and_on (eqb (byte_at s 1) 84)
    (starts_either (hours · opt minutes · opt seconds) (minutes · opt seconds // seconds) is_empty (drop 2 s)
    ∙ or_of
    (starts-span 72 (lit< tt) (lit< tt) (starts (opt minutes · opt seconds) is_empty) s 2
    ∙ and_on (there s 2 72) (ends-two s (span_end s 2 72) 77 83 (lit< tt) (lit< tt) (lit< tt) (lit< tt) (λ z. omega arith)))
    (starts_either (minutes · opt seconds) seconds is_empty (drop 2 s)
    ∙ or_of
    (starts-span 77 (lit< tt) (lit< tt) (starts (opt seconds) is_empty) s 2 ∙ and_on (there s 2 77) (ends s (span_end s 2 77) 83 (lit< tt) (lit< tt)))
    (starts-span 83 (lit< tt) (lit< tt) is_empty s 2 ∙ and_on (there s 2 83) (empty_at s (span_end s 2 83))))
    ∙ first-span s))

-- the code's three places
module _ (s : List ℕ) {h m e : ℕ} (p : h ≡ span_end s 2 72) (q : m ≡ span_end s h 77) (r : e ≡ span_end s m 83) where
  pub three_spans : is_duration s ≡ (eqb (byte_at s 0) 80 && (eqb (byte_at s 1) 84 && (not (eqb e 2) && leb (length s) e)))
  three_spans =
      let f : e ≡ span_end s (span_end s (span_end s 2 72) 77) 83 = r ∙ ap (λ (n : ℕ). span_end s n 83) (q ∙ ap (λ (n : ℕ). span_end s n 77) p) in
      rw f (duration_reads s)

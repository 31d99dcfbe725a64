-- The levels of a topic from a place on, one by one.
use Rattle.std.specs.Prelude.{None, nat_eq}
use Rattle.std.specs.List.{slice_split, list_all}
use Prim.Native.Nat.{ℕ, ◌-◌, ◌≤◌, ◌<◌}
use native.Mathlib.Omega.{arith}
use mathlib.Core.Path.{◌≡◌, refl, sym, ap, ◌∙◌}
use mathlib.Core.List.{List, [], ◌∷◌}
use mathlib.Core.Bool.{Bool, true, false, not, ◌&&◌, ◌||◌, cond}
use lib.Dec.{leb}
use lib.ListN.{length, drop, get_or, length-drop}
use lib.Seq.{take_all}
use borrow.Author.Tests.{le-leb, lt-leb, leb-true, leb-false, eq-eqb, ne_eqb}
use Rattle.text.specs.Ascii.{ascii}
use Rattle.text.specs.Bytes.{slice, eq_bytes}
use Rattle.text.specs.Split.{split, part_at, found_part}
use Rattle.text.proofs.Split.{IsPart, is_part, is_none, split-first, split-more, split-last, split-parts}
use Rattle.text.specs.Ids.{is_id}
use Rattle.topic.specs.Words.{slash, dollar, log_levels}
use Rattle.topic.specs.Topics.{one_of, dollar_id, filled, end, each}
use Rattle.topic.specs.Parts.{levels_from}

module _ (t : List ℕ) (at : ℕ) where
  pub levels-here : at ≤ length t → levels_from t at ≡ split slash (drop at t)
  unfolding levels_from
  levels-here h = rw (le-leb at (length t) h)

  pub levels-past : length t < at → levels_from t at ≡ []
  unfolding levels_from
  levels-past h = rw (lt-leb at (length t) h)

  -- where there is a byte or an end of the topic, there is a level
  pub levels-more : at ≤ length t → end (levels_from t at) ≡ false
  unfolding end
  levels-more h = rw (levels-here h, split-first slash (drop at t))

  pub levels-none : None ≡ part_at slash t at → levels_from t at ≡ []
  levels-none q = levels-past (is_none slash t at q)

  -- a found part is the first of the levels
  module _ (s e n : ℕ) (q : found_part s e n ≡ part_at slash t at) where
    pub found : IsPart slash t at s e n
    found = is_part slash t at s e n q

    pub levels-step : levels_from t at ≡ slice t s e ∷ levels_from t n
    unfolding levels_from
    levels-step = rw (le-leb at (length t) found.here) (pick (leb n (length t)) (leb-true n (length t)) (leb-false n (length t)))
      where
        pick : (b : Bool) → (b ≡ true → n ≤ length t) → (b ≡ false → length t < n) → split slash (drop at t) ≡ slice t s e ∷ cond b (split slash (drop n t)) []
        pick true h k = split-more slash t at s e n found (h refl)
        pick false h k = split-last slash t at s e n found (k refl)

-- the rest of a topic as one part
pub slice-tail : (t : List ℕ) (at : ℕ) → slice t at (length t) ≡ drop at t
slice-tail t at = take_all (length t - at) (drop at t) (omega (arith, length-drop at t))

-- ---- a test of each level, over the parts that the library's `split` gives
each_all : (test : List ℕ → Bool) (ls : List (List ℕ)) → list_all test ls ≡ each test ls
unfolding each
each_all test [] = refl
each_all test (l ∷ ls) = ap (λ (b : Bool). test l && b) (each_all test ls)

pub each_split : (test : List ℕ → Bool) (t rest : List ℕ) (at : ℕ) → at ≤ length t → rest ≡ drop at t → list_all test (slice_split (λ b. nat_eq b slash) rest) ≡ each test (levels_from t at)
each_split test t rest at h e = rw (e, levels-here t at h, split-parts slash (drop at t)) (each_all test (slice_split (λ b. nat_eq b slash) (drop at t)))

pub each_past : (test : List ℕ → Bool) (t : List ℕ) (at : ℕ) → length t < at → true ≡ each test (levels_from t at)
unfolding each
each_past test t at h = rw (levels-past t at h)

pub filled-is : (l : List ℕ) → not (nat_eq (length l) 0) ≡ filled l
unfolding filled
filled-is [] = refl
filled-is (b ∷ l) = rw (ne_eqb (length (b ∷ l)) 0 (omega arith))

-- ---- words

-- the value of `a || b`, by its way
pub or_then : {a v : Bool} (b : Bool) → a ≡ true → v ≡ a → v ≡ (a || b)
or_then b p q = q ∙ p ∙ ap (λ (x : Bool). x || b) (sym p)

pub or_else : {a b v : Bool} → a ≡ false → v ≡ b → v ≡ (a || b)
or_else {a} {b} p q = q ∙ ap (λ (x : Bool). x || b) (sym p)

pub log-level : (s : List ℕ) (two three four r : Bool) → two ≡ (eq_bytes s (ascii "debug") || eq_bytes s (ascii "info")) → three ≡ (two || eq_bytes s (ascii "warn")) → four ≡ (three || eq_bytes s (ascii "error"))
    → r ≡ (four || eq_bytes s (ascii "fatal")) → r ≡ one_of log_levels s
unfolding one_of
log-level s two three four r e f g h = rw (h, g, f, e) (regroup (eq_bytes s (ascii "debug")) (eq_bytes s (ascii "info")) (eq_bytes s (ascii "warn")) (eq_bytes s (ascii "error")) (eq_bytes s (ascii "fatal")))
  where
    regroup : (a b c d e : Bool) → ((((a || b) || c) || d) || e) ≡ (a || (b || (c || (d || (e || false)))))
    regroup true b c d e = refl
    regroup false true c d e = refl
    regroup false false true d e = refl
    regroup false false false true e = refl
    regroup false false false false true = refl
    regroup false false false false false = refl

-- `$` and an ID
pub dollar-none : (l : List ℕ) → length l ≡ 0 → false ≡ dollar_id l
unfolding dollar_id
dollar-none [] h = refl
dollar-none (b ∷ l) h = absurd (omega arith)

pub dollar_no : (l : List ℕ) → 0 < length l → (get_or l 0 0 ≡ dollar → ⊥) → false ≡ dollar_id l
unfolding dollar_id
dollar_no [] h k = refl
dollar_no (b ∷ l) h k = rw (ne_eqb b dollar k)

pub dollar-tail : (l : List ℕ) → 0 < length l → get_or l 0 0 ≡ dollar → is_id (slice l 1 (length l)) ≡ dollar_id l
unfolding dollar_id
dollar-tail [] h k = absurd (omega arith)
dollar-tail (b ∷ l) h k = rw (slice-tail (b ∷ l) 1, eq-eqb b dollar k)

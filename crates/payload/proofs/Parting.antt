-- The parts of a colour.
use Rattle.std.specs.Prelude.{Option, None, Some}
use Prim.Native.Nat.{ℕ, suc, ◌+◌, ◌<◌, ◌≤◌}
use native.Mathlib.Omega.{arith}
use mathlib.Core.Path.{◌≡◌, sym, ap, ◌∙◌}
use mathlib.Core.List.{List, [], ◌∷◌}
use mathlib.Core.Bool.{Bool, true, false, ◌&&◌}
use lib.Dec.{ltb}
use lib.ListN.{length, drop, get_or, drop_of_length-le}
use lib.Seq.{drop-cons}
use native.Mathlib.Numerals.{add-one}
use borrow.Author.Tests.{le-leb, lt-leb, ltb-true, ltb-false}
use Rattle.text.specs.Bytes.{slice}
use Rattle.text.specs.Split.{part_at, found_part}
use Rattle.text.specs.declared.Part.{Part}
use Rattle.text.proofs.Split.{IsPart, is_part, is_none, split-first}
use Rattle.entries.specs.Entries.{entries_of, is_in}
use Rattle.entries.specs.Parts.{from}
use Rattle.entries.proofs.From.{from_all, from-none, from_part}
use Rattle.ranges.specs.Ranges.{is_float_up_to}
use Rattle.abnf.proofs.Steps.{both}
use Rattle.payload.specs.Colors.{floats_up_to, color_values, color_of, is_color}
use Rattle.payload.specs.Parts.{After, goes_on}

pub found : (s : List ℕ) (at : ℕ) {r : Option Part} {a e n : ℕ} → r ≡ part_at 44 s at → r ≡ found_part a e n → IsPart 44 s at a e n
found s at {r} {a} {e} {n} q f = is_part 44 s at a e n (sym f ∙ q)

pub missing : (s : List ℕ) (at : ℕ) {r : Option Part} → r ≡ part_at 44 s at → r ≡ None → length s < at
missing s at q f = is_none 44 s at (sym f ∙ q)

module _ (s : List ℕ) (at most : ℕ) where
  pub after-past : length s < at → After s at most None
  unfolding floats_up_to
  after-past h = record { goes = λ ms. rw (from-none s at h) }

  module _ {a e n : ℕ} (p : IsPart 44 s at a e n) {r : Bool} (h : r ≡ is_float_up_to most (slice s a e)) where
    pub after_yes : r ≡ true → After s at most (Some n)
    unfolding floats_up_to
    after_yes t = record { goes = λ ms. rw (from_part s at a e n p, sym h ∙ t) }

    pub after_no : r ≡ false → After s at most None
    unfolding floats_up_to
    after_no t = record { goes = λ ms. rw (from_part s at a e n p, sym h ∙ t) }

pub after-all : (s : List ℕ) (n : ℕ) → ltb (length s) n ≡ floats_up_to [] (from s n)
unfolding floats_up_to from
after-all s n =
    both (ltb (length s) n)
    (λ e. rw (e, lt-leb n (length s) (ltb-true (length s) n e)))
    (λ e. rw (e, le-leb n (length s) (ltb-false (length s) n e), split-first 44 (drop n s)))

-- the loop over the largest: those from i on are still to come
pub record Going (s : List ℕ) (at : ℕ) (most : List ℕ) (next i : ℕ) : Type 0 where
  pub rest : floats_up_to (drop i most) (from s next) ≡ floats_up_to most (from s at)

module _ {s : List ℕ} {at : ℕ} {most : List ℕ} {next i : ℕ} (so_far : Going s at most next i) where
  pub stopped : i < length most → {r : Option ℕ} → After s next (get_or most i 0) r → r ≡ None → false ≡ floats_up_to most (from s at)
  stopped h a e = sym (a.goes (drop (suc i) most) ∙ ap (goes_on (drop (suc i) most) s) e) ∙ ap (λ (ms : List ℕ). floats_up_to ms (from s next)) (sym (drop-cons most i 0 h)) ∙ so_far.rest

  pub one_more : i < length most → {r : Option ℕ} {n : ℕ} → After s next (get_or most i 0) r → r ≡ Some n → Going s at most n (i + 1)
  one_more h {r} {n} a e = record {
    rest =
        ap (λ (k : ℕ). floats_up_to (drop k most) (from s n)) (add-one i)
        ∙ sym (a.goes (drop (suc i) most) ∙ ap (goes_on (drop (suc i) most) s) e)
        ∙ ap (λ (ms : List ℕ). floats_up_to ms (from s next)) (sym (drop-cons most i 0 h))
        ∙ so_far.rest;
  }

  pub ended : length most ≤ i → ltb (length s) next ≡ floats_up_to most (from s at)
  ended h = after-all s next ∙ ap (λ (ms : List ℕ). floats_up_to ms (from s next)) (sym (drop_of_length-le most h)) ∙ so_far.rest

pub no_color : (format s : List ℕ) → length s < 0 → false ≡ is_color format s
no_color format s h = absurd (omega arith)

pub color-parts : (format s : List ℕ) {a e n : ℕ} → IsPart 44 s 0 a e n → is_color format s ≡ (is_in (slice s a e) (entries_of format) && color_values (slice s a e) (from s n))
unfolding is_color color_of
color-parts format s {a} {e} {n} p = ap (λ (l : List (List ℕ)). color_of format l) (from_all s ∙ from_part s 0 a e n p)

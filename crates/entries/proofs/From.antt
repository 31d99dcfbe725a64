-- The entries from a place on, an entry at a time.
use Prim.Native.Nat.{ℕ, ◌-◌, ◌≤◌, ◌<◌}
use native.Mathlib.Omega.{arith}
use mathlib.Core.Path.{◌≡◌, refl, sym, ap, ◌∙◌}
use mathlib.Core.List.{List, [], ◌∷◌}
use mathlib.Core.Bool.{Bool, true, false, not, ◌&&◌, ◌||◌, cond}
use lib.Dec.{leb}
use lib.ListN.{length, drop}
use borrow.Author.Tests.{le-leb, lt-leb, leb-true, leb-false}
use Rattle.text.specs.Bytes.{eq_bytes, slice}
use Rattle.text.specs.Split.{split}
use Rattle.text.proofs.Slices.{slice-length}
use Rattle.std.specs.Prelude.{nat_eq}
use Rattle.std.specs.List.{slice_split, list_any, list_all}
use Rattle.text.proofs.Split.{IsPart, split-more, split-last, split-parts}
use Rattle.entries.specs.Entries.{entries_of, is_in, none_empty, no_repeats, is_list, all_in}
use Rattle.entries.specs.Parts.{from}

-- the tests of the parts that the library's `split` gives
found_in : (l : List ℕ) (ls : List (List ℕ)) → list_any (eq_bytes l) ls ≡ is_in l ls
unfolding is_in
found_in l [] = refl
found_in l (m ∷ ms) = ap (λ (t : Bool). eq_bytes l m || t) (found_in l ms)

pub found_among : (l s : List ℕ) → list_any (eq_bytes l) (slice_split (λ b. nat_eq b 44) s) ≡ is_in l (entries_of s)
found_among l s = rw (split-parts 44 s) (found_in l (slice_split (λ b. nat_eq b 44) s))

each_in : (ls ms : List (List ℕ)) → list_all (λ l. is_in l ms) ls ≡ all_in ls ms
unfolding all_in
each_in [] ms = refl
each_in (l ∷ ls) ms = ap (λ (t : Bool). is_in l ms && t) (each_in ls ms)

pub each_among : (s : List ℕ) (ms : List (List ℕ)) → list_all (λ l. is_in l ms) (slice_split (λ b. nat_eq b 44) s) ≡ all_in (entries_of s) ms
each_among s ms = rw (split-parts 44 s) (each_in (slice_split (λ b. nat_eq b 44) s) ms)

pub from_all : (s : List ℕ) → entries_of s ≡ from s 0
unfolding from
from_all s = rw (le-leb 0 (length s) (omega arith))

pub from-none : (s : List ℕ) (i : ℕ) → length s < i → from s i ≡ []
unfolding from
from-none s i h = rw (lt-leb i (length s) h)

pub from_rest : (s : List ℕ) (i : ℕ) → i ≤ length s → from s i ≡ entries_of (drop i s)
unfolding from
from_rest s i h = rw (le-leb i (length s) h)

pub from_part : (s : List ℕ) (i a e n : ℕ) → IsPart 44 s i a e n → from s i ≡ slice s a e ∷ from s n
unfolding from
from_part s i a e n p = rw (le-leb i (length s) p.here) (pick (leb n (length s)) refl)
  where
    pick : (t : Bool) → leb n (length s) ≡ t → split 44 (drop i s) ≡ slice s a e ∷ cond t (split 44 (drop n s)) []
    pick true q = split-more 44 s i a e n p (leb-true n (length s) q)
    pick false q = split-last 44 s i a e n p (leb-false n (length s) q)

-- both rules, an entry at a time
pub good : List (List ℕ) → Bool
good [] = true
good (l ∷ ls) = leb 1 (length l) && (not (is_in l ls) && good ls)

pub good_is : (ls : List (List ℕ)) → good ls ≡ (none_empty ls && no_repeats ls)
unfolding good none_empty no_repeats
good_is [] = refl
good_is (l ∷ ls) = ap (λ (t : Bool). leb 1 (length l) && (not (is_in l ls) && t)) (good_is ls) ∙ regroup (leb 1 (length l)) (not (is_in l ls)) (none_empty ls) (no_repeats ls)
  where
    regroup : (a b c d : Bool) → (a && (b && (c && d))) ≡ ((a && c) && (b && d))
    regroup false b c d = refl
    regroup true true c d = refl
    regroup true false true d = refl
    regroup true false false d = refl

pub list_is : (s : List ℕ) → good (from s 0) ≡ is_list s
unfolding is_list
list_is s = ap good (sym (from_all s)) ∙ good_is (entries_of s)

module _ (s : List ℕ) (i a e n : ℕ) (p : IsPart 44 s i a e n) where
  pub empty-here : a ≡ e → good (from s i) ≡ false
  unfolding good
  empty-here z = rw (from_part s i a e n p, slice-length s a e p.ordered p.within, lt-leb 1 (e - a) (omega arith))

  pub step-here : (a ≡ e → ⊥) → good (from s i) ≡ (not (is_in (slice s a e) (from s n)) && good (from s n))
  unfolding good
  step-here h = let l : a < e = omega (arith, p.ordered) in rw (from_part s i a e n p, slice-length s a e p.ordered p.within, le-leb 1 (e - a) (omega arith))

  pub found_here : (l : List ℕ) {r : Bool} → r ≡ eq_bytes l (slice s a e) → r ≡ true → is_in l (from s i) ≡ true
  unfolding is_in
  found_here l q t = rw (from_part s i a e n p, sym q ∙ t)

  pub other-here : (l : List ℕ) {r : Bool} → r ≡ eq_bytes l (slice s a e) → r ≡ false → is_in l (from s i) ≡ is_in l (from s n)
  unfolding is_in
  other-here l q t = rw (from_part s i a e n p, sym q ∙ t)

pub none_left : (s : List ℕ) (i : ℕ) → length s < i → good (from s i) ≡ true
unfolding good
none_left s i h = rw (from-none s i h)

pub not_found : (s : List ℕ) (i : ℕ) → length s < i → (l : List ℕ) → is_in l (from s i) ≡ false
unfolding is_in
not_found s i h l = rw (from-none s i h)

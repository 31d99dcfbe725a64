-- What the tests of entries say of the places of a list.
use Prim.Native.Nat.{ℕ, zero, suc, ◌<◌}
use native.Mathlib.Omega.{arith}
use mathlib.Core.Path.{◌≡◌, refl, sym, ◌∙◌, ap}
use mathlib.Core.Logic.{◌↔◌}
use mathlib.Core.List.{List, [], ◌∷◌}
use mathlib.Core.Bool.{Bool, true, false, not, ◌&&◌, false≢true}
use lib.ListN.{length, get_or}
use borrow.Author.Tests.{not-true}
use Rattle.text.specs.Bytes.{eq_bytes}
use Rattle.text.proofs.Bytes.{both, and_both, or_cases, eq_bytes-refl, eq_bytes-true}
use Rattle.entries.specs.Entries.{is_in, no_repeats}
use Rattle.entries.specs.Places.{Holds, Each, Distinct}

pub found : (l : List ℕ) (ls : List (List ℕ)) → is_in l ls ≡ true → Holds l ls
unfolding is_in
found l [] e = absurd (false≢true e)
found l (m ∷ ms) e = or_cases (eq_bytes l m) (is_in l ms) e
    (λ p. (0, omega arith, sym (eq_bytes-true l m p)))
    (λ p. let r = found l ms p in (suc r.0, omega (arith, r.1), r.2))

pub is_found : (ls : List (List ℕ)) (i : ℕ) → i < length ls → is_in (get_or ls i []) ls ≡ true
unfolding is_in
is_found [] i h = absurd (omega arith)
is_found (m ∷ ms) zero h = rw (eq_bytes-refl m)
is_found (m ∷ ms) (suc i) h = both (eq_bytes (get_or ms i []) m) (λ e. rw e) (λ e. rw e (is_found ms i (omega arith)))

pub is_in-holds : (l : List ℕ) (ls : List (List ℕ)) → (is_in l ls ≡ true) ↔ Holds l ls
is_in-holds l ls = (found l ls, λ p. ap (λ (m : List ℕ). is_in m ls) (sym p.2) ∙ is_found ls p.0 p.1)

-- a test of a list that asks one test of each entry
module _ (all : List (List ℕ) → Bool) (test : List ℕ → Bool) (none : all [] ≡ true) (one : (l : List ℕ) (ls : List (List ℕ)) → all (l ∷ ls) ≡ (test l && all ls)) where
  pub each : (ls : List (List ℕ)) → all ls ≡ true → Each test ls
  each [] e i h = absurd (omega arith)
  each (l ∷ ls) e zero h = (and_both (test l) (all ls) (sym (one l ls) ∙ e)).0
  each (l ∷ ls) e (suc i) h = each ls (and_both (test l) (all ls) (sym (one l ls) ∙ e)).1 i (omega arith)

  pub of-each : (ls : List (List ℕ)) → Each test ls → all ls ≡ true
  of-each [] f = none
  of-each (l ∷ ls) f = one l ls ∙ rw (f 0 (omega arith)) (of-each ls (λ i h. f (suc i) (omega arith)))

  pub each_is : (ls : List (List ℕ)) → (all ls ≡ true) ↔ Each test ls
  each_is ls = (each ls, of-each ls)

distinct : (ls : List (List ℕ)) → no_repeats ls ≡ true → Distinct ls
unfolding no_repeats
distinct [] e i j h k p = absurd (omega arith)
distinct (l ∷ ls) e i zero h k p = absurd (omega arith)
distinct (l ∷ ls) e zero (suc j) h k p =
    let absent = not-true _ (and_both (not (is_in l ls)) (no_repeats ls) e).0 in
    false≢true (sym absent ∙ ap (λ (m : List ℕ). is_in m ls) p ∙ is_found ls j (omega arith))
distinct (l ∷ ls) e (suc i) (suc j) h k p = distinct ls (and_both (not (is_in l ls)) (no_repeats ls) e).1 i j (omega arith) (omega arith) p

of_distinct : (ls : List (List ℕ)) → Distinct ls → no_repeats ls ≡ true
unfolding no_repeats
of_distinct [] f = refl
of_distinct (l ∷ ls) f =
    let absent : is_in l ls ≡ false = both (is_in l ls) (λ e. let r = found l ls e in absurd (f 0 (suc r.0) (omega arith) (omega (arith, r.1)) (sym r.2))) (λ e. e) in
    rw absent (of_distinct ls (λ i j h k. f (suc i) (suc j) (omega arith) (omega arith)))

pub no_repeats_distinct : (ls : List (List ℕ)) → (no_repeats ls ≡ true) ↔ Distinct ls
no_repeats_distinct ls = (distinct ls, of_distinct ls)

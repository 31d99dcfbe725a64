-- The test of a grammar at a place in a text, a step at a time: for readers that go by index.
use Prim.Native.Nat.{ℕ, suc, ◌+◌, ◌≤◌, ◌<◌}
use native.Mathlib.Numerals.{add-one}
use native.Mathlib.Omega.{arith}
use mathlib.Core.Path.{◌≡◌, refl, sym, ap, ◌∙◌, fun_ext}
use mathlib.Core.List.{List}
use mathlib.Core.Bool.{Bool, true, false, ◌&&◌, ◌||◌, and-false}
use lib.ListN.{length, drop, get_or, drop_of_length-le, get_or-eq_default}
use lib.Seq.{drop-cons}
use lib.Dec.{leb, ltb, eqb}
use borrow.Author.Tests.{leb-true, leb-false, le-leb, lt-leb, eq-eqb, ltb-true, ltb-false, eqb-true}
use Rattle.abnf.specs.Abnf.{Abnf, ◌–◌, ε, ◌·◌, ◌//◌, x, opt}
use Rattle.abnf.specs.Accepts.{in_range, is_empty, starts}

-- by cases on a test, keeping what it says
pub both {ℓ} : {X : Type ℓ} (t : Bool) → (t ≡ true → X) → (t ≡ false → X) → X
both true f g = f refl
both false f g = g refl

-- two tests that hold together are one
pub same_test : (t u : Bool) → (t ≡ true → u ≡ true) → (u ≡ true → t ≡ true) → t ≡ u
same_test true true f g = refl
same_test true false f g = sym (f refl)
same_test false true f g = g refl
same_test false false f g = refl

and_elim : (t u : Bool) → elim t as (λ x. Bool) [ true ↦ u | false ↦ false ] ≡ (t && u)
and_elim true u = refl
and_elim false u = refl

or_elim : (t u : Bool) → elim t as (λ x. Bool) [ true ↦ true | false ↦ u ] ≡ (t || u)
or_elim true u = refl
or_elim false u = refl

pub range-true : (lo hi b : ℕ) → in_range lo hi b ≡ true → (lo ≤ b) × (b ≤ hi)
range-true lo hi b e = go (leb lo b) refl e
  where
    go : (t : Bool) → leb lo b ≡ t → (t && leb b hi) ≡ true → (lo ≤ b) × (b ≤ hi)
    go true q e = (leb-true lo b q, leb-true b hi e)
    go false q e = absurd (let z : ◌≡◌ {A = ℕ} 0 1 = cc in omega arith)

pub in_range_lem : (lo hi b : ℕ) → lo ≤ b → b ≤ hi → in_range lo hi b ≡ true
in_range_lem lo hi b h k = rw (le-leb lo b h, le-leb b hi k)

pub above_range : (lo hi b : ℕ) → hi < b → in_range lo hi b ≡ false
above_range lo hi b h = rw (lt-leb b hi h) (and-false (leb lo b))

pub below_range : (lo hi b : ℕ) → b < lo → in_range lo hi b ≡ false
below_range lo hi b h = rw (lt-leb lo b h)

pub one_byte : (c b : ℕ) → in_range c c b ≡ eqb b c
one_byte c b =
    same_test (in_range c c b) (eqb b c)
    (λ e. let r = range-true c c b e in eq-eqb b c (omega arith))
    (λ e. let r = eqb-true b c e in in_range_lem c c b (omega arith) (omega arith))

module _ (k : List ℕ → Bool) (s : List ℕ) (i : ℕ) where
  pub starts-byte : (lo hi : ℕ) → hi < 256 → starts (lo – hi) k (drop i s) ≡ (in_range lo hi (get_or s i 256) && k (drop (i + 1) s))
  unfolding starts
  starts-byte lo hi h =
      both (ltb i (length s))
      (λ e. let l = ltb-true i (length s) e in rw (drop-cons s i 256 l, add-one i) (and_elim (in_range lo hi (get_or s i 256)) (k (drop (suc i) s))))
      (λ e. let l = ltb-false i (length s) e in rw (drop_of_length-le s l, get_or-eq_default s 256 l, above_range lo hi 256 h))

  pub starts-x : (c : ℕ) → c < 256 → starts (x c) k (drop i s) ≡ (eqb (get_or s i 256) c && k (drop (i + 1) s))
  starts-x c h = starts-byte c c h ∙ ap (λ (t : Bool). t && k (drop (i + 1) s)) (one_byte c (get_or s i 256))

pub starts-join : (a b : Abnf ⊥) (k : List ℕ → Bool) (s : List ℕ) → starts (a · b) k s ≡ starts a (starts b k) s
unfolding starts
starts-join a b k s = refl

pub starts_either : (a b : Abnf ⊥) (k : List ℕ → Bool) (s : List ℕ) → starts (a // b) k s ≡ (starts a k s || starts b k s)
unfolding starts
starts_either a b k s = or_elim (starts a k s) (starts b k s)

pub starts-nothing : (k : List ℕ → Bool) (s : List ℕ) → starts ε k s ≡ k s
unfolding starts
starts-nothing k s = refl

pub starts-opt : (a : Abnf ⊥) (k : List ℕ → Bool) (s : List ℕ) → starts (opt a) k s ≡ (starts a k s || k s)
unfolding starts
starts-opt a k s = or_elim (starts a k s) (k s)

-- what goes on alike starts alike
pub starts-alike : (a : Abnf ⊥) (k l : List ℕ → Bool) (s : List ℕ) → ((r : List ℕ) → k r ≡ l r) → starts a k s ≡ starts a l s
starts-alike a k l s h = ap (λ (f : List ℕ → Bool). starts a f s) (fun_ext h)

-- nothing is left at a place
pub empty_at : (s : List ℕ) (i : ℕ) → is_empty (drop i s) ≡ leb (length s) i
unfolding is_empty
empty_at s i =
    both (leb (length s) i)
    (λ e. let l = leb-true (length s) i e in rw (drop_of_length-le s l, e))
    (λ e. let l = leb-false (length s) i e in rw (drop-cons s i 256 l, e))

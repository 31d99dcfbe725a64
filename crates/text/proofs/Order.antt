-- Byte order is a strict total order.
use Prim.Native.Nat.{ℕ, ◌<◌}
use native.Mathlib.Omega.{arith}
use mathlib.Core.Path.{◌≡◌, refl, sym, ◌∙◌}
use mathlib.Core.Logic.{◌⊎◌, inl, inr}
use mathlib.Core.List.{List, [], ◌∷◌}
use mathlib.Core.Bool.{true, false, false≢true}
use lib.Dec.{ltb, eqb}
use borrow.Author.Tests.{ltb-true, ltb-false, eqb-true, lt-ltb, le-ltb, eq-eqb}
use Rattle.text.specs.Bytes.{eq_bytes, less_bytes, Compared, before, equal, after}
use Rattle.text.proofs.Bytes.{both, eq_bytes_yes, eq_bytes_no}

-- ---- one byte in front

module _ (x y : ℕ) (a b : List ℕ) where
  first-less : x < y → less_bytes (x ∷ a) (y ∷ b) ≡ true
  unfolding less_bytes
  first-less h = rw (lt-ltb x y h)

  rest-less : x ≡ y → less_bytes a b ≡ true → less_bytes (x ∷ a) (y ∷ b) ≡ true
  unfolding less_bytes
  rest-less e h = rw (le-ltb x y (omega arith), eq-eqb x y e) h

  less_cases : less_bytes (x ∷ a) (y ∷ b) ≡ true → (x < y) ⊎ ((x ≡ y) × (less_bytes a b ≡ true))
  unfolding less_bytes
  less_cases e = both (ltb x y) (λ p. inl (ltb-true x y p)) λ p.
      both (eqb x y) (λ q. inr (eqb-true x y q, rw (p, q) at e)) (λ q. absurd (false≢true (rw (p, q) at e)))

-- ---- the laws

pub less_irreflexive : (a : List ℕ) → less_bytes a a ≡ false
unfolding less_bytes
less_irreflexive [] = refl
less_irreflexive (x ∷ a) = rw (le-ltb x x (omega arith), eq-eqb x x refl) (less_irreflexive a)

pub less_transitive : (a b c : List ℕ) → less_bytes a b ≡ true → less_bytes b c ≡ true → less_bytes a c ≡ true
unfolding less_bytes
less_transitive a b [] p q = absurd (false≢true q)
less_transitive a [] (z ∷ c) p q = absurd (false≢true p)
less_transitive [] (y ∷ b) (z ∷ c) p q = refl
less_transitive (x ∷ a) (y ∷ b) (z ∷ c) p q = go (less_cases x y a b p) (less_cases y z b c q) (less_transitive a b c)
  where
    go : (x < y) ⊎ ((x ≡ y) × (less_bytes a b ≡ true)) → (y < z) ⊎ ((y ≡ z) × (less_bytes b c ≡ true)) → (less_bytes a b ≡ true → less_bytes b c ≡ true → less_bytes a c ≡ true) → less_bytes (x ∷ a) (z ∷ c) ≡ true
    go (inl h) (inl k) f = first-less x z a c (omega arith)
    go (inl h) (inr k) f = first-less x z a c (omega (arith, k.0))
    go (inr h) (inl k) f = first-less x z a c (omega (arith, h.0))
    go (inr h) (inr k) f = rest-less x z a c (h.0 ∙ k.0) (f h.1 k.1)

pub less_asymmetric : (a b : List ℕ) → less_bytes a b ≡ true → less_bytes b a ≡ false
less_asymmetric a b p = both (less_bytes b a) (λ q. absurd (false≢true (sym (less_irreflexive a) ∙ less_transitive a b a p q))) (λ q. q)

-- one of two that are neither before the other is the other
pub less-total : (a b : List ℕ) → less_bytes a b ≡ false → less_bytes b a ≡ false → a ≡ b
unfolding less_bytes
less-total [] [] p q = refl
less-total [] (y ∷ b) p q = absurd (false≢true (sym p))
less-total (x ∷ a) [] p q = absurd (false≢true (sym q))
less-total (x ∷ a) (y ∷ b) p q =
    both (ltb x y) (λ h. absurd (false≢true (sym p ∙ first-less x y a b (ltb-true x y h)))) λ h.
    both (ltb y x) (λ k. absurd (false≢true (sym q ∙ first-less y x b a (ltb-true y x k)))) λ k.
    let e : x ≡ y = omega (arith, ltb-false x y h, ltb-false y x k) in
    let r = less-total a b (rw (h, eq-eqb x y e) at p) (rw (k, eq-eqb y x (sym e)) at q) in
    cc

pub trichotomy : (a b : List ℕ) → Compared (less_bytes a b) (eq_bytes a b) (less_bytes b a)
trichotomy a b =
    both (less_bytes a b) (λ p. rw (p, eq_bytes_no a b (λ e. false≢true (sym (less_irreflexive b) ∙ rw e at p)), less_asymmetric a b p) before) λ p.
    both (less_bytes b a) (λ q. rw (p, eq_bytes_no a b (λ e. false≢true (sym (less_irreflexive b) ∙ rw e at q)), q) after) λ q.
    rw (p, eq_bytes_yes a b (less-total a b p q), q) equal

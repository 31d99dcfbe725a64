-- How far a text can be continued within a language.
use Prim.Native.Nat.{ℕ, ◌+◌, ◌≤◌, ◌<◌, min}
use native.Mathlib.Nat.{lt_of_not-le, min-eq_left, min-eq_right}
use native.Mathlib.Decide.{dec_le}
use native.Mathlib.Omega.{arith}
use mathlib.Core.Path.{◌≡◌, sym, ap, ◌∙◌, subst}
use mathlib.Core.List.{List, [], ◌++◌, append_assoc, append-nil}
use lib.ListN.{length, take, drop, length-take, take-append-drop}
use lib.Seq.{take-take, take-length}
use Rattle.abnf.specs.Place.{Viable, Furthest}

split {ℓ} : {X : Type ℓ} (a b : ℕ) → (a ≤ b → X) → (b < a → X) → X
split a b f g = elim (dec_le a b) [ yes h ↦ f h | no h ↦ g (lt_of_not-le h) ]

module _ (L : List ℕ → Type 0) where
  pub viable-front : (k l : List ℕ) → Viable L (k ++ l) → Viable L k
  viable-front k l (t, w) = (l ++ t, subst L (append_assoc k l t) w)

  pub viable-less : (s : List ℕ) (i j : ℕ) → i ≤ j → Viable L (take j s) → Viable L (take i s)
  viable-less s i j h v = viable-front (take i s) (drop i (take j s)) (subst (Viable L) (sym (ap (λ (l : List ℕ). l ++ drop i (take j s)) (sym (take-take i j s h)) ∙ take-append-drop i (take j s))) v)

  pub whole_viable : (s : List ℕ) → L s → Viable L s
  whole_viable s w = ([], subst L (sym (append-nil s)) w)

  -- there is one such place at most
  not-less : (s : List ℕ) (p q : ℕ) → Furthest L s p → Furthest L s q → p < q → ⊥
  not-less s p q f g h = let k = g.inside in f.at (omega arith) (viable-less s (p + 1) q (omega arith) g.before)

  pub one_place : (s : List ℕ) (p q : ℕ) → Furthest L s p → Furthest L s q → p ≡ q
  one_place s p q f g = split p q (λ h. split q p (λ k. omega arith) (λ k. absurd (not-less s p q f g k))) (λ h. absurd (not-less s q p g f h))

  -- what can be continued reaches its end
  pub viable-end : (s : List ℕ) → Viable L s → Furthest L s (length s)
  viable-end s v = record { inside = omega arith; before = subst (Viable L) (sym (take-length s)) v; at = λ h. absurd (omega arith) }

  -- of a text that is cut off the place is the same, or its end
  pub furthest-cut : (s : List ℕ) (p n : ℕ) → Furthest L s p → Furthest L (take n s) (min p n)
  furthest-cut s p n f = let z = length-take n s in let i = f.inside in split p n
      (λ h. rw (min-eq_left h) (record {
        inside = omega arith;
        before = rw (take-take p n s h) f.before;
        at = λ k v. f.at (omega arith) (rw (take-take (p + 1) n s (omega arith)) at v);
      }))
      (λ h. let k : n ≤ p = omega arith in rw (min-eq_right k) (record {
        inside = omega arith;
        before = rw (take-take n n s (omega arith)) (viable-less s n p k f.before);
        at = λ k. absurd (omega arith);
      }))

-- of two languages, where what can be continued in each can be in both
module _ (L M : List ℕ → Type 0) (join : (s : List ℕ) → Viable L s → Viable M s → Viable (λ (l : List ℕ). L l × M l) s) where
  pub furthest-both : (s : List ℕ) (p q : ℕ) → Furthest L s p → Furthest M s q → Furthest (λ (l : List ℕ). L l × M l) s (min p q)
  furthest-both s p q f g = split p q
      (λ h. rw (min-eq_left h) (record {
        inside = f.inside;
        before = join (take p s) f.before (viable-less M s p q h g.before);
        at = λ k v. f.at k (v.0, v.1.0);
      }))
      (λ h. let k : q ≤ p = omega arith in rw (min-eq_right k) (record {
        inside = g.inside;
        before = join (take q s) (viable-less L s q p k f.before) g.before;
        at = λ k v. g.at k (v.0, v.1.1);
      }))

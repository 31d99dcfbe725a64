-- What holds at each of some places, and the tests that decide it.
use Prim.Native.Nat.{ℕ, ◌+◌, ◌≤◌, ◌<◌}
use native.Mathlib.Omega.{arith}
use mathlib.Core.Path.{◌≡◌, sym, subst, ◌∙◌}
use mathlib.Core.Bool.{Bool, true, false, ◌&&◌, false≢true}
use Rattle.text.specs.Parts.{Decides, Each}
use Rattle.text.proofs.Bytes.{both, at_most, and_both}

-- ---- tests

pub decides-true : {P : Type 0} → P → Decides P true
decides-true p = record { yes = λ q. p; no = λ q x. false≢true (sym q) }

pub decides-false : {P : Type 0} → (P → ⊥) → Decides P false
decides-false n = record { yes = λ q. absurd (false≢true q); no = λ q x. n x }

-- ---- places

module _ {P : ℕ → Type 0} {n : ℕ} where
  pub each_none : (i : ℕ) → i ≤ n → Each P n i i
  each_none i h = record { from = omega arith; to = h; all = λ k p q. absurd (omega arith) }

  pub each-one : (i j : ℕ) → i + 1 ≡ j → i < n → P i → Each P n i j
  each-one i j e h x = record { from = omega arith; to = omega arith; all = λ k p q. let f : i ≡ k = omega arith in subst P f x }

  pub each_to : {i j k : ℕ} → j ≡ k → Each P n i j → Each P n i k
  each_to {i} e v = subst (Each P n i) e v

  -- two parts that meet or overlap
  pub each_lap : {i j k l : ℕ} → i ≤ k → k ≤ j → Each P n i j → Each P n k l → Each P n i l
  each_lap {i} {j} {k} {l} h g v w = record {
    from = omega (arith, w.from);
    to = w.to;
    all = λ m p q. at_most k m (λ x. w.all m x q) (λ x. v.all m p (omega arith));
  }

  pub each_then : {i j k : ℕ} → Each P n i j → Each P n j k → Each P n i k
  each_then v w = each_lap v.from (omega arith) v w

  pub each_both : {i j k : ℕ} (x y : Bool) → (x ≡ true → Each P n i j) → (y ≡ true → Each P n j k) → (x && y) ≡ true → Each P n i k
  each_both x y f g e = let q = and_both x y e in each_then (f q.0) (g q.1)

  pub each_part : {i j : ℕ} (k l : ℕ) → i ≤ k → k ≤ l → l ≤ j → Each P n i j → Each P n k l
  each_part k l h g f v = record { from = g; to = omega (arith, v.to); all = λ m p q. v.all m (omega arith) (omega arith) }

  module _ {i j k l : ℕ} (x y : Bool) (d : Decides (Each P n i j) x) (e : Decides (Each P n k l) y) where
    pub decides-both : i ≤ j → k ≤ l → i ≤ k → k ≤ j → j ≤ l → Decides (Each P n i l) (x && y)
    decides-both a b c f g = record {
      yes = λ q. let r = and_both x y q in each_lap c f (d.yes r.0) (e.yes r.1);
      no = λ q v.
          both x
          (λ p. e.no (sym (rw p) ∙ q) (each_part k l c b (omega arith) v))
          (λ p. d.no p (each_part i j (omega arith) a g v));
    }

  module _ {i j : ℕ} {x : Bool} (d : Decides (Each P n i j) x) where
    -- what is left is known
    pub decides-rest : {k l : ℕ} → i ≤ k → k ≤ j → i ≤ j → j ≤ l → Each P n k l → Decides (Each P n i l) x
    decides-rest a b c f v = record {
      yes = λ q. each_lap a b (d.yes q) v;
      no = λ q w. d.no q (each_part i j (omega arith) c f w);
    }

    pub decides_to : {l : ℕ} → j ≡ l → Decides (Each P n i l) x
    decides_to e = subst (λ (m : ℕ). Decides (Each P n i m) x) e d

    -- a part that fails
    pub decides-fails : {k l : ℕ} → x ≡ false → k ≤ i → i ≤ j → j ≤ l → Decides (Each P n k l) false
    decides-fails q a b c = decides-false (λ v. d.no q (each_part i j a b c v))

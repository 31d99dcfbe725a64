-- A grammar so many times: the words of lo*hiA are those of nA for an n from lo to hi.
use Prim.Native.Nat.{ℕ, zero, suc, ◌+◌, ◌-◌, ◌≤◌}
use native.Mathlib.Omega.{arith}
use mathlib.Core.Path.{◌≡◌, refl, sym, subst}
use mathlib.Core.Logic.{◌↔◌}
use mathlib.Core.List.{List, ◌++◌, append_assoc}
use Rattle.abnf.specs.Abnf.{Abnf, ◌·◌, ◌∈◌, nothing, join, left, right, times, up_to, repeat}

module _ (a : Abnf ⊥) where
  up_to-times : (n : ℕ) {s : List ℕ} → s ∈ up_to n a → (k : ℕ) × (k ≤ n) × (s ∈ times k a)
  up_to-times zero nothing = (0, omega arith, nothing)
  up_to-times (suc n) (right nothing) = (0, omega arith, nothing)
  up_to-times (suc n) (left (join w v)) = let q = up_to-times n v in (suc q.0, omega (arith, q.1), join w q.2)

  times-up_to : (n k : ℕ) {s : List ℕ} → k ≤ n → s ∈ times k a → s ∈ up_to n a
  times-up_to zero zero h nothing = nothing
  times-up_to zero (suc k) h w = absurd (omega arith)
  times-up_to (suc n) zero h nothing = right nothing
  times-up_to (suc n) (suc k) h (join w v) = left (join w (times-up_to n k (omega arith) v))

  same-times : {n m : ℕ} {s : List ℕ} → n ≡ m → s ∈ times n a → s ∈ times m a
  same-times {s = s} e w = subst (λ (k : ℕ). s ∈ times k a) e w

  -- one after the other, and apart again
  times-join : (n k m : ℕ) {s t : List ℕ} → m ≡ n + k → s ∈ times n a → t ∈ times k a → (s ++ t) ∈ times m a
  times-join zero k m e nothing v = let q : k ≡ m = omega arith in same-times q v
  times-join (suc n) k zero e w v = absurd (omega arith)
  times-join (suc n) k (suc m) {t = t} e (join {x = x} {y = y} w v) u = rw (append_assoc x y t) (join w (times-join n k m (omega arith) v u))

  times_cut : (n k m : ℕ) {s : List ℕ} → m ≡ n + k → s ∈ times m a → s ∈ (times n a · times k a)
  times_cut zero k m e w = let q : m ≡ k = omega arith in join nothing (same-times q w)
  times_cut (suc n) k zero e w = absurd (omega arith)
  times_cut (suc n) k (suc m) e (join w v) = again w (times_cut n k m (omega arith) v)
    where
      again : {s t : List ℕ} → s ∈ a → t ∈ (times n a · times k a) → (s ++ t) ∈ (times (suc n) a · times k a)
      again {s = s} w (join {x = x} {y = y} v u) = rw (sym (append_assoc s x y)) (join (join w v) u)

  repeat-times : (lo hi : ℕ) {s : List ℕ} → lo ≤ hi → s ∈ repeat lo hi a → (n : ℕ) × (lo ≤ n) × (n ≤ hi) × (s ∈ times n a)
  repeat-times lo hi h (join w v) = let q = up_to-times (hi - lo) v in (lo + q.0, omega arith, omega (arith, q.1), times-join lo q.0 (lo + q.0) refl w q.2)

  times-repeat : (lo hi n : ℕ) {s : List ℕ} → lo ≤ n → n ≤ hi → s ∈ times n a → s ∈ repeat lo hi a
  times-repeat lo hi n h k w =
      up (n - lo) (omega arith) (times_cut lo (n - lo) n (omega arith) w)
    where
      up : (m : ℕ) → m ≤ hi - lo → {t : List ℕ} → t ∈ (times lo a · times m a) → t ∈ repeat lo hi a
      up m l (join w v) = join w (times-up_to (hi - lo) m l v)

  pub repeat_is : (lo hi : ℕ) (s : List ℕ) → lo ≤ hi → (s ∈ repeat lo hi a) ↔ ((n : ℕ) × (lo ≤ n) × (n ≤ hi) × (s ∈ times n a))
  repeat_is lo hi s h = (repeat-times lo hi h, λ q. times-repeat lo hi q.0 q.1 q.2 q.3)

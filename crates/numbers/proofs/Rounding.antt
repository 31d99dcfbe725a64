-- The rounded value, from the remainder of v - b.
use Prim.Native.Nat.{ℕ, suc, ◌+◌, ◌-◌, ◌*◌, ◌/◌, ◌%◌, ◌<◌, ◌≤◌}
use mathlib.Core.Path.{◌≡◌, ap, sym, ◌∙◌}
use native.Mathlib.Omega.{arith}
use native.Mathlib.Decide.{dec_lt, dec_le, ℕ_discrete}
use native.Mathlib.Nat.{mul_comm, mul-zero, mul-suc, suc-mul, mul-add, mul-sub, mul_left_comm, mul-le-mul_left, div-add-mod', mod-lt}
use lib.IntN.{ℤ, pos, negsuc, sub_ℕ, ◌+ℤ◌, ◌-ℤ◌, ◌*ℤ◌}
use Rattle.numbers.specs.Step.{rounded, floor_div}
use Rattle.numbers.specs.Parts.{Past}
use Rattle.numbers.proofs.Difference.{sub_lt, sub_eq, pos-sub, neg-sub, add-sub, mul-sub-pos, floor}

-- the remainder, in the three cases of the code
pub at_above : {v b s : ℕ} → 0 < s → b ≤ v → Past v b s ((v - b) % s)
at_above {v} {b} {s} h l = record {
  q = (v - b) / s;
  p = 0;
  less = mod-lt (v - b) h;
  sum = omega (arith, div-add-mod' (v - b) s);
}

pub at-step : {v b s : ℕ} → 0 < s → v < b → (b - v) % s ≡ 0 → Past v b s 0
at-step {v} {b} {s} h l e = record {
  q = 0;
  p = (b - v) / s;
  less = h;
  sum = omega (arith, div-add-mod' (b - v) s);
}

pub under : {v b s : ℕ} → 0 < s → v < b → ((b - v) % s ≡ 0 → ⊥) → Past v b s (s - (b - v) % s)
under {v} {b} {s} h l e = record {
  q = 0;
  p = suc ((b - v) / s);
  less = omega (arith, mod-lt (b - v) h);
  sum = omega (arith, div-add-mod' (b - v) s, suc-mul ((b - v) / s) s, mod-lt (b - v) h);
}

module _ {v b s r : ℕ} (past : Past v b s r) (k : ℕ) where
  inner : pos 2 *ℤ (sub_ℕ v k -ℤ sub_ℕ b k) +ℤ pos s ≡ sub_ℕ (2 * (v + k) + s) (2 * (k + b) + 0)
  inner =
      ap (λ (z : ℤ). pos 2 *ℤ (sub_ℕ v k +ℤ z) +ℤ pos s) (neg-sub b k)
      ∙ ap (λ (z : ℤ). pos 2 *ℤ z +ℤ pos s) (add-sub v k k b)
      ∙ ap (λ (z : ℤ). z +ℤ pos s) (mul-sub-pos 2 (v + k) (k + b))
      ∙ ap (λ (z : ℤ). sub_ℕ (2 * (v + k)) (2 * (k + b)) +ℤ z) (pos-sub s)
      ∙ add-sub (2 * (v + k)) (2 * (k + b)) s 0

  -- the quotient is x - y
  whole : (x y : ℕ) → floor_div (sub_ℕ (2 * (v + k) + s) (2 * (k + b) + 0)) (2 * s) ≡ sub_ℕ x y → rounded (sub_ℕ b k) (sub_ℕ v k) s ≡ sub_ℕ (b + s * x) (k + s * y)
  unfolding rounded
  whole x y e =
      ap (λ (z : ℤ). sub_ℕ b k +ℤ pos s *ℤ floor_div z (2 * s)) inner
      ∙ ap (λ (z : ℤ). sub_ℕ b k +ℤ pos s *ℤ z) e
      ∙ ap (λ (z : ℤ). sub_ℕ b k +ℤ z) (mul-sub-pos s x y)
      ∙ add-sub b k (s * x) (s * y)

  pub down : r < s - r → rounded (sub_ℕ b k) (sub_ℕ v k) s ≡ sub_ℕ (v + 0) (k + r)
  down h =
      let q : ℕ = past.q in
      let p : ℕ = past.p in
      whole q p
      (floor (2 * (v + k) + s) (2 * (k + b) + 0) (2 * s) q p (2 * r + s) (omega arith)
      (omega (arith, mul_left_comm p 2 s, mul_left_comm q 2 s, past.sum)))
      ∙ sub_eq (b + s * q) (k + s * p) (v + 0) (k + r) (omega (arith, mul_comm s q, mul_comm s p, past.sum))

  pub up : s - r ≤ r → rounded (sub_ℕ b k) (sub_ℕ v k) s ≡ sub_ℕ (v + (s - r)) (k + 0)
  up h =
      let q : ℕ = past.q in
      let p : ℕ = past.p in
      whole (suc q) p
      (floor (2 * (v + k) + s) (2 * (k + b) + 0) (2 * s) (suc q) p (2 * r - s) (omega arith)
      (omega (arith, mul_left_comm p 2 s, mul_left_comm q 2 s, suc-mul q (2 * s), past.sum)))
      ∙ sub_eq (b + s * suc q) (k + s * p) (v + (s - r)) (k + 0) (omega (arith, mul_comm s q, mul_comm s p, mul-suc s q, past.sum, past.less))

-- ---- in other units, k of them to one

module _ {v b s r : ℕ} (past : Past v b s r) (k : ℕ) (some : 0 < k) where
  more : {x y : ℕ} → x < y → k * x < k * y
  more {x} {y} h = omega (arith, mul-le-mul_left k h, mul-suc k x)

  past-scaled : Past (k * v) (k * b) (k * s) (k * r)
  past-scaled =
      let q : ℕ = past.q in
      let p : ℕ = past.p in
      record {
        q = q;
        p = p;
        less = more past.less;
        sum =
            let e : k * (v + p * s) ≡ k * (b + q * s + r) = ap (λ (x : ℕ). k * x) past.sum in
            omega (arith, mul-add k v (p * s), mul-add k (b + q * s) r, mul-add k b (q * s), mul_left_comm p k s, mul_left_comm q k s);
      }

  scaled : (c : ℕ) → rounded (sub_ℕ (k * b) (k * c)) (sub_ℕ (k * v) (k * c)) (k * s) ≡ pos k *ℤ rounded (sub_ℕ b c) (sub_ℕ v c) s
  scaled c = pick (dec_lt r (s - r))
    where
      pick : Dec (r < s - r) → rounded (sub_ℕ (k * b) (k * c)) (sub_ℕ (k * v) (k * c)) (k * s) ≡ pos k *ℤ rounded (sub_ℕ b c) (sub_ℕ v c) s
      pick (yes h) =
          let m : k * (r + r) < k * s = more (omega arith) in
          down past-scaled (k * c) (omega (arith, mul-add k r r))
          ∙ sub_eq (k * v + 0) (k * c + k * r) (k * (v + 0)) (k * (c + r)) (omega (arith, mul-add k v 0, mul-zero k, mul-add k c r))
          ∙ sym (ap (λ (z : ℤ). pos k *ℤ z) (down past c h) ∙ mul-sub-pos k (v + 0) (c + r))
      pick (no h) =
          let l = past.less in
          let n : k * s ≤ k * (r + r) = mul-le-mul_left k (omega arith) in
          up past-scaled (k * c) (omega (arith, mul-add k r r))
          ∙ sub_eq (k * v + (k * s - k * r)) (k * c + 0) (k * (v + (s - r))) (k * (c + 0)) (omega (arith, mul-add k v (s - r), mul-sub k s r, mul-add k c 0, mul-zero k))
          ∙ sym (ap (λ (z : ℤ). pos k *ℤ z) (up past c (omega arith)) ∙ mul-sub-pos k (v + (s - r)) (c + 0))

remainder : (v b s : ℕ) → 0 < s → (r : ℕ) × Past v b s r
remainder v b s h = above (dec_le b v)
  where
    below : v < b → Dec ((b - v) % s ≡ 0) → (r : ℕ) × Past v b s r
    below l (yes e) = (0, at-step h l e)
    below l (no e) = (s - (b - v) % s, under h l e)

    above : Dec (b ≤ v) → (r : ℕ) × Past v b s r
    above (yes l) = ((v - b) % s, at_above h l)
    above (no l) = below (omega arith) (ℕ_discrete ((b - v) % s) 0)

-- every whole number is a difference, of any number that is large enough
abbrev below-zero : ℤ → ℕ
below-zero (pos n) = 0
below-zero (negsuc n) = suc n

biased : (z : ℤ) (c : ℕ) → below-zero z ≤ c → (n : ℕ) × (z ≡ sub_ℕ n c)
biased (pos n) c h = (n + c, pos-sub n ∙ sub_eq n 0 (n + c) c (omega arith))
biased (negsuc n) c h = (c - suc n, ap negsuc (omega arith) ∙ sym (sub_lt (c - suc n) c (omega arith)))

pub rounded_units : (k : ℕ) (b v : ℤ) (s : ℕ) → 0 < k → 0 < s → rounded (pos k *ℤ b) (pos k *ℤ v) (k * s) ≡ pos k *ℤ rounded b v s
rounded_units k b v s h l =
    let c : ℕ = below-zero b + below-zero v in
    let x = biased b c (omega arith) in
    let y = biased v c (omega arith) in
    by x.0 y.0 c x.1 y.1
  where
    by : (x y c : ℕ) → b ≡ sub_ℕ x c → v ≡ sub_ℕ y c → rounded (pos k *ℤ b) (pos k *ℤ v) (k * s) ≡ pos k *ℤ rounded b v s
    by x y c e f =
        ap (λ (z : ℤ). rounded (pos k *ℤ z) (pos k *ℤ v) (k * s)) e
        ∙ ap (λ (z : ℤ). rounded z (pos k *ℤ v) (k * s)) (mul-sub-pos k x c)
        ∙ ap (λ (z : ℤ). rounded (sub_ℕ (k * x) (k * c)) (pos k *ℤ z) (k * s)) f
        ∙ ap (λ (z : ℤ). rounded (sub_ℕ (k * x) (k * c)) z (k * s)) (mul-sub-pos k y c)
        ∙ scaled (remainder y x s l).1 k h c
        ∙ sym (ap (λ (z : ℤ). pos k *ℤ rounded z v s) e ∙ ap (λ (z : ℤ). pos k *ℤ rounded (sub_ℕ x c) z s) f)

-- A whole number as a difference of two naturals, `sub_ℕ a b`: sums, products, quotients rounded down and order, by equations in ℕ.
use Prim.Native.Nat.{ℕ, zero, suc, ◌+◌, ◌-◌, ◌*◌, ◌/◌, ◌<◌, ◌≤◌}
use mathlib.Core.Path.{◌≡◌, refl, ap, ◌∙◌, sym}
use native.Mathlib.Omega.{arith}
use native.Mathlib.Decide.{dec_lt, dec_le}
use native.Mathlib.Nat.{mul-sub, mul-add, add-mul, suc-mul, mul-le-mul_left}
use lib.Arith.{digits_div}
use lib.Dec.{leb}
use lib.IntN.{pos, negsuc, neg_ℤ, sub_ℕ, ◌+ℤ◌, ◌*ℤ◌}
use lib.Signed.{le_z}
use Rattle.numbers.specs.Step.{floor_div}
use borrow.Author.Tests.{le-leb, lt-leb, lt-ltb, le-ltb}

pub sub_lt : (a b : ℕ) → a < b → sub_ℕ a b ≡ negsuc (b - suc a)
sub_lt a b h = rw (lt-ltb a b h)

pub sub_ge : (a b : ℕ) → b ≤ a → sub_ℕ a b ≡ pos (a - b)
sub_ge a b h = rw (le-ltb a b h)

pub sub_eq : (a b c d : ℕ) → a + d ≡ c + b → sub_ℕ a b ≡ sub_ℕ c d
sub_eq a b c d e = pick (dec_lt a b)
  where
    pick : Dec (a < b) → sub_ℕ a b ≡ sub_ℕ c d
    pick (yes h) = sub_lt a b h ∙ ap negsuc (omega arith) ∙ sym (sub_lt c d (omega arith))
    pick (no h) = sub_ge a b (omega arith) ∙ ap pos (omega arith) ∙ sym (sub_ge c d (omega arith))

pub pos-sub : (a : ℕ) → pos a ≡ sub_ℕ a 0
pos-sub a = ap pos (omega arith) ∙ sym (sub_ge a 0 (omega arith))

pub neg-pos : (a : ℕ) → neg_ℤ (pos a) ≡ sub_ℕ 0 a
neg-pos zero = refl
neg-pos (suc a) = ap negsuc (omega arith) ∙ sym (sub_lt 0 (suc a) (omega arith))

pub neg-sub : (a b : ℕ) → neg_ℤ (sub_ℕ a b) ≡ sub_ℕ b a
neg-sub a b = pick (dec_lt a b)
  where
    pick : Dec (a < b) → neg_ℤ (sub_ℕ a b) ≡ sub_ℕ b a
    pick (yes h) = ap neg_ℤ (sub_lt a b h) ∙ ap pos (omega arith) ∙ sym (sub_ge b a (omega arith))
    pick (no h) = ap neg_ℤ (sub_ge a b (omega arith)) ∙ neg-pos (a - b) ∙ sub_eq 0 (a - b) b a (omega arith)

pub add-sub : (a b c d : ℕ) → sub_ℕ a b +ℤ sub_ℕ c d ≡ sub_ℕ (a + c) (b + d)
add-sub a b c d = pick (dec_lt a b) (dec_lt c d)
  where
    pick : Dec (a < b) → Dec (c < d) → sub_ℕ a b +ℤ sub_ℕ c d ≡ sub_ℕ (a + c) (b + d)
    pick (yes h) (yes k) = rw (sub_lt a b h, sub_lt c d k) (ap negsuc (omega arith) ∙ sym (sub_lt (a + c) (b + d) (omega arith)))
    pick (yes h) (no k) = rw (sub_lt a b h, sub_ge c d (omega arith)) (sub_eq (c - d) (suc (b - suc a)) (a + c) (b + d) (omega arith))
    pick (no h) (yes k) = rw (sub_ge a b (omega arith), sub_lt c d k) (sub_eq (a - b) (suc (d - suc c)) (a + c) (b + d) (omega arith))
    pick (no h) (no k) = rw (sub_ge a b (omega arith), sub_ge c d (omega arith)) (ap pos (omega arith) ∙ sym (sub_ge (a + c) (b + d) (omega arith)))

pub mul-sub-pos : (s a b : ℕ) → pos s *ℤ sub_ℕ a b ≡ sub_ℕ (s * a) (s * b)
mul-sub-pos s a b = pick (dec_lt a b)
  where
    pick : Dec (a < b) → pos s *ℤ sub_ℕ a b ≡ sub_ℕ (s * a) (s * b)
    pick (yes h) =
        let whole : s * a + s * suc (b - suc a) ≡ s * b = sym (mul-add s a (suc (b - suc a))) ∙ ap (λ (x : ℕ). s * x) (omega arith) in
        rw (sub_lt a b h) (neg-pos (s * suc (b - suc a)) ∙ sub_eq 0 (s * suc (b - suc a)) (s * a) (s * b) (omega arith))
    pick (no h) =
        let more : b ≤ a = omega arith in
        rw (sub_ge a b more) (ap pos (mul-sub s a b) ∙ sym (sub_ge (s * a) (s * b) (mul-le-mul_left s more)))

-- the quotient rounded down: a - b = (q - p) m + r
pub floor : (a b m q p r : ℕ) → r < m → a + p * m ≡ b + q * m + r → floor_div (sub_ℕ a b) m ≡ sub_ℕ q p
floor a b m q p r l e = pick (dec_lt q p)
  where
    pick : Dec (q < p) → floor_div (sub_ℕ a b) m ≡ sub_ℕ q p
    pick (yes h) =
        let k : ℕ = p - suc q in
        let pm : p * m ≡ q * m + (k * m + m) = ap (λ (x : ℕ). x * m) (omega arith) ∙ add-mul q (suc k) m ∙ ap (λ (x : ℕ). q * m + x) (suc-mul k m) in
        let ab : a < b = omega arith in
        let quot : (b - suc a) / m ≡ k = ap (λ (x : ℕ). x / m) (omega arith) ∙ digits_div k {r = m - suc r} (omega arith) in
        rw (sub_lt a b ab) (ap negsuc quot ∙ sym (sub_lt q p h))
    pick (no h) =
        let k : ℕ = q - p in
        let qm : q * m ≡ p * m + k * m = ap (λ (x : ℕ). x * m) (omega arith) ∙ add-mul p k m in
        let ab : b ≤ a = omega arith in
        let quot : (a - b) / m ≡ k = ap (λ (x : ℕ). x / m) (omega arith) ∙ digits_div k l in
        rw (sub_ge a b ab) (ap pos quot ∙ sym (sub_ge q p (omega arith)))

pub leb_eq : (x y z w : ℕ) → (x ≤ y → z ≤ w) → (z ≤ w → x ≤ y) → leb x y ≡ leb z w
leb_eq x y z w f g = pick (dec_le x y) (dec_le z w)
  where
    pick : Dec (x ≤ y) → Dec (z ≤ w) → leb x y ≡ leb z w
    pick (yes h) k = le-leb x y h ∙ sym (le-leb z w (f h))
    pick (no h) (yes k) = absurd (h (g k))
    pick (no h) (no k) = lt-leb x y (omega arith) ∙ sym (lt-leb z w (omega arith))

pub le-sub : (a b c d : ℕ) → le_z (sub_ℕ a b) (sub_ℕ c d) ≡ leb (a + d) (c + b)
le-sub a b c d = pick (dec_lt a b) (dec_lt c d)
  where
    pick : Dec (a < b) → Dec (c < d) → le_z (sub_ℕ a b) (sub_ℕ c d) ≡ leb (a + d) (c + b)
    pick (yes h) (yes k) = rw (sub_lt a b h, sub_lt c d k) (leb_eq (d - suc c) (b - suc a) (a + d) (c + b) (λ x. omega arith) (λ x. omega arith))
    pick (yes h) (no k) = rw (sub_lt a b h, sub_ge c d (omega arith)) (sym (le-leb (a + d) (c + b) (omega arith)))
    pick (no h) (yes k) = rw (sub_ge a b (omega arith), sub_lt c d k) (sym (lt-leb (a + d) (c + b) (omega arith)))
    pick (no h) (no k) = rw (sub_ge a b (omega arith), sub_ge c d (omega arith)) (leb_eq (a - b) (c - d) (a + d) (c + b) (λ x. omega arith) (λ x. omega arith))

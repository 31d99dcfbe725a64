-- `floor_div` is the quotient rounded down.
use Prim.Native.Nat.{ℕ, suc, ◌+◌, ◌*◌, ◌/◌, ◌<◌, ◌≤◌}
use native.Mathlib.Omega.{arith}
use native.Mathlib.Nat.{mul_comm, mul-suc, div-add-mod', mod-lt}
use mathlib.Core.Path.{◌≡◌, ap, sym, ◌∙◌}
use mathlib.Core.Bool.{true, false}
use lib.IntN.{ℤ, pos, negsuc, sub_ℕ, ◌+ℤ◌, ◌*ℤ◌}
use lib.Signed.{le_z}
use borrow.Author.Tests.{le-leb, lt-leb}
use Rattle.numbers.specs.Step.{floor_div}
use Rattle.numbers.proofs.Difference.{pos-sub, sub_lt, mul-sub-pos, add-sub, le-sub}

negsuc-sub : (n : ℕ) → negsuc n ≡ sub_ℕ 0 (suc n)
negsuc-sub n = ap negsuc (omega arith) ∙ sym (sub_lt 0 (suc n) (omega arith))

-- z = a - b and its quotient q = x - y
module _ (m a b x y : ℕ) where
  pub low : m * x + b ≤ a + m * y → le_z (pos m *ℤ sub_ℕ x y) (sub_ℕ a b) ≡ true
  low h = ap (λ (z : ℤ). le_z z (sub_ℕ a b)) (mul-sub-pos m x y) ∙ le-sub (m * x) (m * y) a b ∙ le-leb (m * x + b) (a + m * y) h

  pub high : a + m * y < m * x + m + b → le_z (pos m *ℤ sub_ℕ x y +ℤ pos m) (sub_ℕ a b) ≡ false
  high h =
      ap (λ (z : ℤ). le_z (z +ℤ pos m) (sub_ℕ a b)) (mul-sub-pos m x y)
      ∙ ap (λ (z : ℤ). le_z (sub_ℕ (m * x) (m * y) +ℤ z) (sub_ℕ a b)) (pos-sub m)
      ∙ ap (λ (z : ℤ). le_z z (sub_ℕ a b)) (add-sub (m * x) (m * y) m 0)
      ∙ le-sub (m * x + m) (m * y + 0) a b
      ∙ lt-leb (m * x + m + b) (a + (m * y + 0)) (omega arith)

abbrev pub Floor : ℤ → ℕ → Type 0
Floor z m = (le_z (pos m *ℤ floor_div z m) z ≡ true) × (le_z (pos m *ℤ floor_div z m +ℤ pos m) z ≡ false)

pub floor : (z : ℤ) (m : ℕ) → 0 < m → Floor z m
floor (pos n) m h =
    let d = div-add-mod' n m in
    let l = mod-lt n h in
    let c = mul_comm m (n / m) in
    (le-leb (m * (n / m)) n (omega arith), lt-leb (m * (n / m) + m) n (omega arith))
floor (negsuc n) m h =
    let d = div-add-mod' n m in
    let l = mod-lt n h in
    let c = mul_comm m (n / m) in
    let u = mul-suc m (n / m) in (
      ap (λ (z : ℤ). le_z (pos m *ℤ z) (negsuc n)) (negsuc-sub (n / m))
          ∙ ap (λ (z : ℤ). le_z (pos m *ℤ sub_ℕ 0 (suc (n / m))) z) (negsuc-sub n)
          ∙ low m 0 (suc n) 0 (suc (n / m)) (omega arith),
      ap (λ (z : ℤ). le_z (pos m *ℤ z +ℤ pos m) (negsuc n)) (negsuc-sub (n / m))
          ∙ ap (λ (z : ℤ). le_z (pos m *ℤ sub_ℕ 0 (suc (n / m)) +ℤ pos m) z) (negsuc-sub n)
          ∙ high m 0 (suc n) 0 (suc (n / m)) (omega arith),
    )

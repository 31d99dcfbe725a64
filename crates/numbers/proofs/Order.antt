-- The laws of `shift_down`, `size_le` and `decimal_le`.
use Prim.Native.Nat.{ℕ, zero, suc, ◌+◌, ◌-◌, ◌*◌, ◌/◌, ◌^◌, ◌<◌, ◌≤◌}
use mathlib.Core.Path.{◌≡◌, refl, ap, ◌∙◌, sym, subst}
use mathlib.Core.Bool.{Bool, true, false}
use native.Mathlib.Omega.{arith}
use native.Mathlib.Decide.{dec_lt, ℕ_discrete}
use native.Mathlib.Nat.{one-le-pow, pow-le-pow_right, mul_assoc, mul_comm, mul_right_comm, mul-le-mul_right, le_of_mul-le-mul_right, le-mul_of_pos_right, zero-mul, mul-one, add-mul, div-eq_of_lt, le-div_iff_mul-le, div-lt_iff_lt-mul}
use lib.Dec.{leb, ltb, eqb, lit<}
use lib.Pow.{pow-add}
use lib.IntN.{ℤ, pos, neg_ℤ, sub_ℕ, ◌*ℤ◌}
use lib.Signed.{le_z}
use borrow.Author.Tests.{le-leb, lt-leb, eq-eqb, ne_eqb}
use Rattle.numbers.specs.declared.decimals.Decimal.{Decimal}
use Rattle.numbers.specs.Whole.{signed}
use Rattle.numbers.specs.Decimal.{exact}
use Rattle.numbers.specs.Ratio.{Ratio, scaled, ratio, le_q}
use Rattle.numbers.proofs.Difference.{leb_eq, pos-sub, neg-pos, le-sub, sub_lt, sub_ge}

pub tens : (k : ℕ) → 0 < 10 ^ k
tens k = one-le-pow k 10 (lit< tt)

-- a u64 has at most 20 digits
pub no_more : (x k : ℕ) → x < 2 ^ 64 → 19 < k → 0 ≡ x / 10 ^ k
no_more x k h m = let l : 10 ^ 20 ≤ 10 ^ k = pow-le-pow_right (lit< tt) {i = 20} {j = k} m in sym (div-eq_of_lt (omega arith))

-- the three returns of `size_le`
module _ (a ea b eb : ℕ) where
  more : (x y : ℕ) → x ≤ y → 10 ^ y ≡ 10 ^ (y - x) * 10 ^ x
  more x y h = let e : y ≡ y - x + x = omega arith in ap (λ (n : ℕ). 10 ^ n) e ∙ pow-add 10 (y - x) x

  pub left_higher : (q : ℕ) → q ≡ b / 10 ^ (ea - eb) → eb < ea → leb a q ≡ leb (a * 10 ^ ea) (b * 10 ^ eb)
  left_higher q is h =
      let t : a * 10 ^ ea ≡ a * 10 ^ (ea - eb) * 10 ^ eb = ap (λ (n : ℕ). a * n) (more eb ea (omega arith)) ∙ sym (mul_assoc a (10 ^ (ea - eb)) (10 ^ eb)) in
      ap (λ (n : ℕ). leb a n) is
      ∙ leb_eq a (b / 10 ^ (ea - eb)) (a * 10 ^ (ea - eb) * 10 ^ eb) (b * 10 ^ eb)
      (λ l. mul-le-mul_right (10 ^ eb) ((le-div_iff_mul-le (tens (ea - eb))).0 l))
      (λ l. (le-div_iff_mul-le (tens (ea - eb))).1 (le_of_mul-le-mul_right l (tens eb)))
      ∙ ap (λ (n : ℕ). leb n (b * 10 ^ eb)) (sym t)

  pub right_higher : (q : ℕ) → q ≡ (a - 1) / 10 ^ (eb - ea) → ea ≤ eb → (a ≡ 0 → ⊥) → ltb q b ≡ leb (a * 10 ^ ea) (b * 10 ^ eb)
  right_higher q is h z =
      let t : b * 10 ^ eb ≡ b * 10 ^ (eb - ea) * 10 ^ ea = ap (λ (n : ℕ). b * n) (more ea eb h) ∙ sym (mul_assoc b (10 ^ (eb - ea)) (10 ^ ea)) in
      ap (λ (n : ℕ). ltb n b) is
      ∙ leb_eq (suc ((a - 1) / 10 ^ (eb - ea))) b (a * 10 ^ ea) (b * 10 ^ (eb - ea) * 10 ^ ea)
      (λ l. mul-le-mul_right (10 ^ ea) (whole ((div-lt_iff_lt-mul (tens (eb - ea))).0 l)))
      (λ l. (div-lt_iff_lt-mul (tens (eb - ea))).1 (part (le_of_mul-le-mul_right l (tens ea))))
      ∙ ap (λ (n : ℕ). leb (a * 10 ^ ea) n) (sym t)
    where
      whole : {n : ℕ} → a - 1 < n → a ≤ n
      whole l = omega arith

      part : {n : ℕ} → a ≤ n → a - 1 < n
      part l = omega arith

-- by the signs, on the sizes A and B
pub minus_minus : (A B : ℕ) → le_z (signed true A) (signed true B) ≡ leb B A
minus_minus A B =
    ap (λ (z : ℤ). le_z z (neg_ℤ (pos B))) (neg-pos A)
    ∙ ap (λ (z : ℤ). le_z (sub_ℕ 0 A) z) (neg-pos B)
    ∙ le-sub 0 A 0 B
    ∙ leb_eq (0 + B) (0 + A) B A (λ t. omega arith) (λ t. omega arith)

pub minus_plus : (A B : ℕ) → le_z (signed true A) (signed false B) ≡ true
minus_plus A B =
    ap (λ (z : ℤ). le_z z (pos B)) (neg-pos A)
    ∙ ap (λ (z : ℤ). le_z (sub_ℕ 0 A) z) (pos-sub B)
    ∙ le-sub 0 A B 0
    ∙ le-leb (0 + 0) (B + A) (omega arith)

pub plus-minus : (A B : ℕ) → le_z (signed false A) (signed true B) ≡ leb (A + B) 0
plus-minus A B =
    ap (λ (z : ℤ). le_z z (neg_ℤ (pos B))) (pos-sub A) ∙ ap (λ (z : ℤ). le_z (sub_ℕ A 0) z) (neg-pos B) ∙ le-sub A 0 0 B

-- sizes in other units, P of the one for T of the other
module _ (P T : ℕ) (p : 0 < P) (t : 0 < T) where
  rescale : (X Y J K : ℕ) → X * P ≡ J * T → Y * P ≡ K * T → leb J K ≡ leb X Y
  rescale X Y J K e f =
      leb_eq J K X Y
      (λ l. le_of_mul-le-mul_right (subst (λ (n : ℕ). n ≤ Y * P) (sym e) (subst (λ (n : ℕ). J * T ≤ n) (sym f) (mul-le-mul_right T l))) p)
      (λ l. le_of_mul-le-mul_right (subst (λ (n : ℕ). n ≤ K * T) e (subst (λ (n : ℕ). X * P ≤ n) f (mul-le-mul_right P l))) t)

  signed_rescale : (na nb : Bool) (X Y J K : ℕ) → X * P ≡ J * T → Y * P ≡ K * T → le_z (signed na J) (signed nb K) ≡ le_z (signed na X) (signed nb Y)
  signed_rescale true true X Y J K e f = minus_minus J K ∙ rescale Y X K J f e ∙ sym (minus_minus X Y)
  signed_rescale true false X Y J K e f = minus_plus J K ∙ sym (minus_plus X Y)
  signed_rescale false true X Y J K e f =
      plus-minus J K
      ∙ rescale (X + Y) 0 (J + K) 0 (add-mul X Y P ∙ ap (λ (n : ℕ). n + Y * P) e ∙ ap (λ (n : ℕ). J * T + n) f ∙ sym (add-mul J K T)) (zero-mul P ∙ sym (zero-mul T))
      ∙ sym (plus-minus X Y)
  signed_rescale false false X Y J K e f = rescale X Y J K e f

pub signed_mul : (neg : Bool) (N D : ℕ) → signed neg N *ℤ pos D ≡ signed neg (N * D)
signed_mul true zero D = rw (zero-mul D)
signed_mul true (suc n) D = refl
signed_mul false N D = refl

-- m · 10^(e - k) as a fraction, and in units of 10^-k
pub record AsRatio (neg : Bool) (m e k : ℕ) : Type 0 where
  pub N : ℕ
  pub D : ℕ
  pub is : scaled neg m (sub_ℕ e k) ≡ record { numerator = signed neg N; denominator = D }
  pub some : 0 < D
  pub same : m * 10 ^ e * D ≡ N * 10 ^ k

pub as-ratio : (neg : Bool) (m e k : ℕ) → AsRatio neg m e k
as-ratio neg m e k = pick (dec_lt e k)
  where
    below : (n : ℕ) → suc n + e ≡ k → m * 10 ^ e * 10 ^ suc n ≡ m * 10 ^ k
    below n h =
        mul_assoc m (10 ^ e) (10 ^ suc n)
        ∙ ap (λ (x : ℕ). m * x) (mul_comm (10 ^ e) (10 ^ suc n) ∙ sym (pow-add 10 (suc n) e) ∙ ap (λ (x : ℕ). 10 ^ x) h)

    above : (n : ℕ) → n + k ≡ e → m * 10 ^ e * 1 ≡ m * 10 ^ n * 10 ^ k
    above n h =
        mul-one (m * 10 ^ e)
        ∙ ap (λ (x : ℕ). m * x) (ap (λ (x : ℕ). 10 ^ x) (sym h) ∙ pow-add 10 n k)
        ∙ sym (mul_assoc m (10 ^ n) (10 ^ k))

    pick : Dec (e < k) → AsRatio neg m e k
    pick (yes h) = record {
      N = m;
      D = 10 ^ suc (k - suc e);
      is = ap (λ (z : ℤ). scaled neg m z) (sub_lt e k h);
      some = tens (suc (k - suc e));
      same = below (k - suc e) (omega arith);
    }
    pick (no h) = record {
      N = m * 10 ^ (e - k);
      D = 1;
      is = ap (λ (z : ℤ). scaled neg m z) (sub_ge e k (omega arith));
      some = omega arith;
      same = above (e - k) (omega arith);
    }

pub order : (na nb : Bool) (ma ea mb eb k : ℕ) → le_q (scaled na ma (sub_ℕ ea k)) (scaled nb mb (sub_ℕ eb k)) ≡ le_z (signed na (ma * 10 ^ ea)) (signed nb (mb * 10 ^ eb))
order na nb ma ea mb eb k =
    let a : AsRatio na ma ea k = as-ratio na ma ea k in
    let b : AsRatio nb mb eb k = as-ratio nb mb eb k in
    let p : 0 < a.D * b.D = positive a.D b.D a.some b.some in
    ap (λ (r : Ratio). le_q r (scaled nb mb (sub_ℕ eb k))) a.is
    ∙ ap (λ (r : Ratio). le_q (record { numerator = signed na a.N; denominator = a.D }) r) b.is
    ∙ ap (λ (z : ℤ). le_z z (signed nb b.N *ℤ pos a.D)) (signed_mul na a.N b.D)
    ∙ ap (λ (z : ℤ). le_z (signed na (a.N * b.D)) z) (signed_mul nb b.N a.D)
    ∙ signed_rescale (a.D * b.D) (10 ^ k) p (tens k) na nb (ma * 10 ^ ea) (mb * 10 ^ eb) (a.N * b.D) (b.N * a.D)
    (sym (mul_assoc (ma * 10 ^ ea) a.D b.D) ∙ ap (λ (n : ℕ). n * b.D) a.same ∙ mul_right_comm a.N (10 ^ k) b.D)
    (ap (λ (n : ℕ). mb * 10 ^ eb * n) (mul_comm a.D b.D) ∙ sym (mul_assoc (mb * 10 ^ eb) b.D a.D) ∙ ap (λ (n : ℕ). n * a.D) b.same ∙ mul_right_comm b.N (10 ^ k) a.D)
  where
    positive : (x y : ℕ) → 0 < x → 0 < y → 0 < x * y
    positive x y h g = omega (arith, le-mul_of_pos_right x g)

-- the order of the fractions is that of the numbers in units of 10^-300
pub in_units : (a b : Decimal) → le_q (ratio (exact a)) (ratio (exact b)) ≡ le_z (signed a.negative (a.mantissa * 10 ^ a.exponent)) (signed b.negative (b.mantissa * 10 ^ b.exponent))
in_units a b = order a.negative b.negative a.mantissa a.exponent b.mantissa b.exponent 300

module _ (a b : Decimal) where
  -- the five returns of `decimal_le`
  pub below-zero : (r : Bool) → a.negative ≡ true → b.negative ≡ true → r ≡ leb (b.mantissa * 10 ^ b.exponent) (a.mantissa * 10 ^ a.exponent) → r ≡ le_q (ratio (exact a)) (ratio (exact b))
  below-zero r h k e = e ∙ sym (in_units a b ∙ rw (h, k) (minus_minus (a.mantissa * 10 ^ a.exponent) (b.mantissa * 10 ^ b.exponent)))

  pub zeros : a.negative ≡ false → b.negative ≡ true → a.mantissa ≡ 0 → eqb b.mantissa 0 ≡ le_q (ratio (exact a)) (ratio (exact b))
  zeros h k z =
      same (ℕ_discrete b.mantissa 0)
      ∙ sym (in_units a b ∙ rw (h, k) (plus-minus (a.mantissa * 10 ^ a.exponent) (b.mantissa * 10 ^ b.exponent)))
    where
      none : (m e : ℕ) → m ≡ 0 → m * 10 ^ e ≡ 0
      none m e i = rw (i, zero-mul)

      same : Dec (b.mantissa ≡ 0) → eqb b.mantissa 0 ≡ leb (a.mantissa * 10 ^ a.exponent + b.mantissa * 10 ^ b.exponent) 0
      same (yes i) =
          eq-eqb b.mantissa 0 i
          ∙ sym (le-leb (a.mantissa * 10 ^ a.exponent + b.mantissa * 10 ^ b.exponent) 0 (omega (arith, none a.mantissa a.exponent z, none b.mantissa b.exponent i)))
      same (no i) =
          ne_eqb b.mantissa 0 i
          ∙ sym (lt-leb (a.mantissa * 10 ^ a.exponent + b.mantissa * 10 ^ b.exponent) 0 (omega (arith, le-mul_of_pos_right b.mantissa (tens b.exponent))))

  pub over_zero : a.negative ≡ false → b.negative ≡ true → (a.mantissa ≡ 0 → ⊥) → false ≡ le_q (ratio (exact a)) (ratio (exact b))
  over_zero h k z =
      sym
      (in_units a b
      ∙ rw (h, k)
      (plus-minus (a.mantissa * 10 ^ a.exponent) (b.mantissa * 10 ^ b.exponent)
      ∙ lt-leb (a.mantissa * 10 ^ a.exponent + b.mantissa * 10 ^ b.exponent) 0 (omega (arith, le-mul_of_pos_right a.mantissa (tens a.exponent)))))

  pub above_zero : (r : Bool) → a.negative ≡ false → b.negative ≡ false → r ≡ leb (a.mantissa * 10 ^ a.exponent) (b.mantissa * 10 ^ b.exponent) → r ≡ le_q (ratio (exact a)) (ratio (exact b))
  above_zero r h k e = e ∙ sym (in_units a b ∙ rw (h, k))

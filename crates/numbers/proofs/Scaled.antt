-- A number of the shape as whole billionths: it is the exact decimal times 10^9, and below 10^18.
use Rattle.std.specs.Prelude.{None, Some}
use Prim.Native.Nat.{ℕ, ◌+◌, ◌-◌, ◌*◌, ◌^◌, ◌≤◌, ◌<◌}
use native.Mathlib.Omega.{arith}
use native.Mathlib.Nat.{mul_assoc, mul_comm, one-mul, mul-one, pow-suc, pow-le-pow_right, mul-le-mul_right, add-mul}
use mathlib.Core.Path.{◌≡◌, refl, sym, ap, ◌∙◌}
use mathlib.Core.Logic.{◌↔◌}
use mathlib.Core.List.{List, [], ◌∷◌, ◌++◌}
use mathlib.Core.Bool.{Bool, true, false, cond, and-true}
use lib.Dec.{leb, lit<}
use lib.Pow.{pow-add}
use lib.ListN.{length, length-append}
use lib.IntN.{ℤ, pos, sub_ℕ, ◌+ℤ◌, ◌-ℤ◌}
use lib.Signed.{le_z}
use borrow.Author.Tests.{le-leb, leb-true}
use Rattle.abnf.specs.Abnf.{◌∈◌}
use Rattle.abnf.specs.Accepts.{accepts}
use Rattle.abnf.proofs.Accepts.{word-accepts}
use Rattle.abnf.proofs.Steps.{both}
use Rattle.numbers.specs.declared.decimals.Decimal.{Decimal}
use Rattle.numbers.specs.Digits.{numeral, number}
use Rattle.numbers.specs.Grammar.{float-text, fixed-text}
use Rattle.numbers.specs.Whole.{signed}
use Rattle.numbers.specs.Decimal.{Scientific, scientific, is_small, decimal, exact}
use Rattle.numbers.specs.Ratio.{Ratio, scaled, ratio, le_q, SameQ}
use Rattle.numbers.specs.Billionths.{in_billionths, billionths}
use Rattle.numbers.specs.Parts.{all_digits}
use Rattle.numbers.proofs.Difference.{sub_eq, add-sub, le-sub, neg-pos, pos-sub}
use Rattle.numbers.proofs.Acceptance.{word_value}
use Rattle.numbers.proofs.Order.{tens, AsRatio, as-ratio, order, signed_mul}
use Rattle.numbers.proofs.Texts.{digit_is, cons-digits, uncons-digits}
use Rattle.numbers.proofs.FloatText.{decimal_is}
use Rattle.numbers.proofs.FixedText.{Fixed, accepted_fixed, in-billionths_is}

digits-both : (l r : List ℕ) → all_digits l ≡ true → all_digits r ≡ true → all_digits (l ++ r) ≡ true
digits-both [] r e g = g
digits-both (b ∷ l) r e g = let p = uncons-digits b l e in cons-digits b (l ++ r) p.0 (digits-both l r p.1 g)

-- digits write less than a one with as many zeros
below_power : (a : ℕ) (ds : List ℕ) → all_digits ds ≡ true → numeral a ds < (a + 1) * 10 ^ length ds
unfolding numeral
below_power a [] e = omega (arith, mul-one (a + 1))
below_power a (d ∷ ds) e =
    let p = uncons-digits d ds e in
    let q = digit_is d p.0 in
    let h = below_power (a * 10 + (d - 48)) ds p.1 in
    let l : (a * 10 + (d - 48) + 1) * 10 ^ length ds ≤ (a + 1) * 10 * 10 ^ length ds = mul-le-mul_right (10 ^ length ds) (omega (arith, q.0, q.1)) in
    let k : (a + 1) * 10 ^ length (d ∷ ds) ≡ (a + 1) * 10 * 10 ^ length ds =
    ap (λ (n : ℕ). (a + 1) * n) (pow-suc 10 (length ds) ∙ mul_comm (10 ^ length ds) 10) ∙ sym (mul_assoc (a + 1) 10 (10 ^ length ds)) in
    omega arith

-- what stands f places behind the dot, with any bias k from f on
behind : (k f : ℕ) → f ≤ k → sub_ℕ (k - f) k ≡ pos 0 -ℤ pos f
behind k f h =
    sym
    (ap (λ (y : ℤ). y -ℤ pos f) (pos-sub 0)
    ∙ ap (λ (y : ℤ). sub_ℕ 0 0 +ℤ y) (neg-pos f)
    ∙ add-sub 0 0 0 f
    ∙ sub_eq (0 + 0) (0 + f) (k - f) k (omega arith))

stands-le : (k a b : ℕ) → sub_ℕ a k ≡ sub_ℕ b k → a ≤ b
stands-le k a b e =
    let t : leb (a + k) (b + k) ≡ true = sym (le-sub a k b k) ∙ ap (λ (z : ℤ). le_z z (sub_ℕ b k)) e ∙ le-sub b k b k ∙ le-leb (b + k) (b + k) (omega arith) in
    omega (arith, leb-true (a + k) (b + k) t)

module _ {s : List ℕ} (f : Fixed s) where
  -- the sign, the digits, and how many of them are behind the dot
  abbrev M : ℕ
  M = number (f.ws ++ f.fs)

  abbrev F : ℕ
  F = length f.fs

  decimal_fixed : decimal s ≡ Some (record { negative = f.neg; mantissa = M; exponent = pos 0 -ℤ pos F })
  decimal_fixed =
      let k = f.few-whole in
      let l = f.few-behind in
      ap decimal f.cut
      ∙ decimal_is f.neg f.ws f.fs 101 false [] f.shaped
      ∙ rw (le-leb (length (f.ws ++ f.fs)) 18 (omega (arith, length-append f.ws f.fs)))

  units : in_billionths s ≡ signed f.neg (M * 10 ^ (9 - F))
  units = ap in_billionths f.cut ∙ in-billionths_is f.neg f.ws f.fs 101 false [] f.shaped

  pub scientific_fixed : scientific s ≡ record { negative = f.neg; mantissa = M; exponent = pos 0 -ℤ pos F }
  unfolding decimal
  scientific_fixed = ((word_value float-text s (is_small s) (scientific s) (record { negative = f.neg; mantissa = M; exponent = pos 0 -ℤ pos F })).0 decimal_fixed).2

  pub is-decimal : decimal s ≡ Some (scientific s)
  is-decimal = decimal_fixed ∙ ap Some (sym scientific_fixed)

  ratio_fixed : ratio (scientific s) ≡ scaled f.neg M (sub_ℕ (9 - F) 9)
  ratio_fixed = let l = f.few-behind in ap ratio scientific_fixed ∙ ap (scaled f.neg M) (sym (behind 9 F (omega arith)))

  -- the exact decimal is so many billionths
  pub times : SameQ (ratio (scientific s)) (record { numerator = in_billionths s; denominator = 10 ^ 9 })
  times =
      let a : AsRatio f.neg M (9 - F) 9 = as-ratio f.neg M (9 - F) 9 in
      let q : Ratio = record { numerator = signed f.neg (M * 10 ^ (9 - F)); denominator = 10 ^ 9 } in
      let same : SameQ (record { numerator = signed f.neg a.N; denominator = a.D }) q = signed_mul f.neg a.N (10 ^ 9) ∙ ap (signed f.neg) (sym a.same) ∙ sym (signed_mul f.neg (M * 10 ^ (9 - F)) a.D) in
      rw (ratio_fixed, a.is, units) same

  small : M * 10 ^ (9 - F) < 10 ^ 18
  small =
      let w = f.few-whole in
      let l = f.few-behind in
      let n = length-append f.ws f.fs in
      let h : M < (0 + 1) * 10 ^ length (f.ws ++ f.fs) = below_power 0 (f.ws ++ f.fs) all in
      let k : (M + 1) * 10 ^ (9 - F) ≤ (0 + 1) * 10 ^ length (f.ws ++ f.fs) * 10 ^ (9 - F) = mul-le-mul_right (10 ^ (9 - F)) (omega arith) in
      let e : (0 + 1) * 10 ^ length (f.ws ++ f.fs) * 10 ^ (9 - F) ≡ 10 ^ (length (f.ws ++ f.fs) + (9 - F)) =
      ap (λ (x : ℕ). x * 10 ^ (9 - F)) (one-mul (10 ^ length (f.ws ++ f.fs))) ∙ sym (pow-add 10 (length (f.ws ++ f.fs)) (9 - F)) in
      let g : 10 ^ (length (f.ws ++ f.fs) + (9 - F)) ≤ 10 ^ 18 = pow-le-pow_right (lit< tt) {i = length (f.ws ++ f.fs) + (9 - F)} {j = 18} (omega arith) in
      omega (arith, add-mul M 1 (10 ^ (9 - F)), one-mul (10 ^ (9 - F)), tens (9 - F))
    where
      all : all_digits (f.ws ++ f.fs) ≡ true
      all = digits-both f.ws f.fs f.shaped.whole f.shaped.behind

-- "Comparisons are of exact decimals": the order of the billionths is theirs
pub order_fixed : {a b : List ℕ} → Fixed a → Fixed b → le_q (ratio (scientific a)) (ratio (scientific b)) ≡ le_z (in_billionths a) (in_billionths b)
order_fixed f g =
    rw (ratio_fixed f, ratio_fixed g, units f, units g)
    (order f.neg g.neg (M f) (9 - F f) (M g) (9 - F g) 9)

-- the texts of the shape, and no others, have billionths
pub billionths-words : (s : List ℕ) (z : ℤ) → (billionths s ≡ Some z) ↔ ((s ∈ fixed-text) × (in_billionths s ≡ z))
unfolding billionths
billionths-words s z = (
  λ e. let p = (word_value fixed-text s true (in_billionths s) z).0 (ap (λ (b : Bool). cond b (Some (in_billionths s)) None) (and-true (accepts fixed-text s)) ∙ e) in (p.0, p.2),
  λ h. ap (λ (b : Bool). cond b (Some (in_billionths s)) None) (sym (and-true (accepts fixed-text s))) ∙ (word_value fixed-text s true (in_billionths s) z).1 (h.0, refl, h.1),
)

pub word_fixed : (s : List ℕ) → s ∈ fixed-text → Fixed s
word_fixed s w = accepted_fixed s (word-accepts fixed-text s w)

-- ---- the code

-- `read_billionths`: a decimal of the shape has the exponent and the size that `in_billionths` asks for
module _ (s : List ℕ) (d : Decimal) (b : Bool) (read : Some (exact d) ≡ decimal s) (said : cond b (Some (signed d.negative (d.mantissa * 10 ^ (d.exponent - 291)))) None ≡ billionths s) where
  pub not_fixed : b ≡ false → None ≡ billionths s
  not_fixed t = let e : None ≡ cond b (Some (signed d.negative (d.mantissa * 10 ^ (d.exponent - 291)))) None = rw t in e ∙ said

  is_fixed : b ≡ true → Fixed s
  unfolding billionths
  is_fixed t =
      both (accepts fixed-text s) (accepted_fixed s)
      (λ e.
      let u : Some (signed d.negative (d.mantissa * 10 ^ (d.exponent - 291))) ≡ cond b (Some (signed d.negative (d.mantissa * 10 ^ (d.exponent - 291)))) None = rw t in
      let v : billionths s ≡ None = rw e in
      let z : ◌≡◌ {A = ℕ} 0 1 = cc in
      absurd (omega arith))

  module _ (t : b ≡ true) where
    same : exact d ≡ record { negative = (is_fixed t).neg; mantissa = M (is_fixed t); exponent = pos 0 -ℤ pos (F (is_fixed t)) }
    same = let e : Some (exact d) ≡ Some (record { negative = (is_fixed t).neg; mantissa = M (is_fixed t); exponent = pos 0 -ℤ pos (F (is_fixed t)) }) = read ∙ decimal_fixed (is_fixed t) in cc

    exponent_is : d.exponent ≡ 300 - F (is_fixed t)
    exponent_is =
        let l = (is_fixed t).few-behind in
        let e : sub_ℕ d.exponent 300 ≡ sub_ℕ (300 - F (is_fixed t)) 300 = ap (λ (x : Scientific). x.exponent) same ∙ sym (behind 300 (F (is_fixed t)) (omega arith)) in
        omega (arith, stands-le 300 d.exponent (300 - F (is_fixed t)) e, stands-le 300 (300 - F (is_fixed t)) d.exponent (sym e))

    pub ready : (291 ≤ d.exponent) × (d.exponent ≤ 300) × (d.mantissa * 10 ^ (d.exponent - 291) < 10 ^ 18)
    ready =
        let l = (is_fixed t).few-behind in
        let e : d.exponent - 291 ≡ 9 - F (is_fixed t) = omega (arith, exponent_is) in
        let m : d.mantissa ≡ M (is_fixed t) = ap (λ (x : Scientific). x.mantissa) same in
        let p : d.mantissa * 10 ^ (d.exponent - 291) ≡ M (is_fixed t) * 10 ^ (9 - F (is_fixed t)) = ap (λ (x : ℕ). x * 10 ^ (d.exponent - 291)) m ∙ ap (λ (x : ℕ). M (is_fixed t) * 10 ^ x) e in
        (omega (arith, exponent_is), omega (arith, exponent_is), omega (arith, p, small (is_fixed t)))

    pub fixed : Some (signed d.negative (d.mantissa * 10 ^ (d.exponent - 291))) ≡ billionths s
    fixed = let e : Some (signed d.negative (d.mantissa * 10 ^ (d.exponent - 291))) ≡ cond b (Some (signed d.negative (d.mantissa * 10 ^ (d.exponent - 291)))) None = rw t in e ∙ said

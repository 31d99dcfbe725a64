-- What the crate promises beyond its contracts, in the paper's order.
use Rattle.std.specs.Prelude.{Some}
use Prim.Native.Nat.{ℕ, ◌+◌, ◌*◌, ◌^◌, ◌<◌}
use mathlib.Core.Path.{◌≡◌, subst, ◌∙◌}
use mathlib.Core.Logic.{◌↔◌}
use mathlib.Core.List.{List}
use mathlib.Core.Bool.{true, false}
use native.Mathlib.Omega.{arith}
use lib.Dec.{leb}
use lib.IntN.{ℤ, pos, ◌+ℤ◌, ◌*ℤ◌}
use lib.Signed.{le_z}
use Rattle.abnf.specs.Abnf.{◌∈◌}
use Rattle.numbers.specs.declared.decimals.Decimal.{Decimal}
use Rattle.numbers.specs.Grammar.{integer-text, float-text, fixed-text}
use Rattle.numbers.specs.Whole.{signed, stands}
use Rattle.numbers.specs.Integer.{value, is_64_bit, integer}
use Rattle.numbers.specs.Step.{floor_div, rounded}
use Rattle.numbers.specs.Decimal.{Scientific, scientific, is_small, decimal, exact}
use Rattle.numbers.specs.Ratio.{ratio, le_q, SameQ}
use Rattle.numbers.specs.Billionths.{in_billionths, billionths}
use Rattle.numbers.proofs.Acceptance.{word_value}
use Rattle.numbers.proofs.Difference.{le-sub, leb_eq}
use Rattle.numbers.proofs.Floor.{floor}
use Rattle.numbers.proofs.Order.{in_units}
use Rattle.numbers.proofs.Rounding.{rounded_units}
use Rattle.numbers.proofs.Scaled.{billionths-words, word_fixed, is-decimal, times, order_fixed}

-- "integer: optional `-`, then digits, leading zeros allowed; value from -2^63 to 2^63-1": these texts are read, and no others
pub integer-words : (s : List ℕ) (z : ℤ) → (integer s ≡ Some z) ↔ ((s ∈ integer-text) × (is_64_bit (value s) ≡ true) × (value s ≡ z))
unfolding integer
integer-words s z = word_value integer-text s (is_64_bit (value s)) (value s) z

-- numbers of the code keep the order of what they stand for
pub stands-order : (bias a b : ℕ) → le_z (stands bias a) (stands bias b) ≡ leb a b
stands-order bias a b = le-sub a bias b bias ∙ leb_eq (a + bias) (b + bias) a b (λ h. omega arith) (λ h. omega arith)

-- "float: ..": these texts are read, and no others
pub decimal-words : (s : List ℕ) (d : Scientific) → (decimal s ≡ Some d) ↔ ((s ∈ float-text) × (is_small s ≡ true) × (scientific s ≡ d))
unfolding decimal
decimal-words s d = word_value float-text s (is_small s) (scientific s) d

-- "Comparisons are of exact decimals": the order of the fractions is that of the whole numbers of units of 10^-300
pub order_in_units : (a b : Decimal) → le_q (ratio (exact a)) (ratio (exact b)) ≡ le_z (signed a.negative (a.mantissa * 10 ^ a.exponent)) (signed b.negative (b.mantissa * 10 ^ b.exponent))
order_in_units a b = in_units a b

-- "floor": m·q ≤ z < m·q + m
pub floor_is : (z : ℤ) (m : ℕ) → 0 < m → (le_z (pos m *ℤ floor_div z m) z ≡ true) × (le_z (pos m *ℤ floor_div z m +ℤ pos m) z ≡ false)
floor_is z m h = floor z m h

-- K7, "no exponent and at most nine whole digits and nine after a dot": these texts have the shape, and no others
pub fixed-words : (s : List ℕ) (z : ℤ) → (billionths s ≡ Some z) ↔ ((s ∈ fixed-text) × (in_billionths s ≡ z))
fixed-words = billionths-words

-- "what it is in whole billionths": a text of the shape is a float, and its exact decimal is z / 10^9
pub billionths-exact : (s : List ℕ) (z : ℤ) → billionths s ≡ Some z → (decimal s ≡ Some (scientific s)) × SameQ (ratio (scientific s)) (record { numerator = z; denominator = 10 ^ 9 })
billionths-exact s z e = let w = (fixed-words s z).0 e in let f = word_fixed s w.0 in (is-decimal f, subst (λ (n : ℤ). SameQ (ratio (scientific s)) (record { numerator = n; denominator = 10 ^ 9 })) w.1 (times f))

-- their order is that of the exact decimals
pub billionths-order : (a b : List ℕ) (y z : ℤ) → billionths a ≡ Some y → billionths b ≡ Some z → le_q (ratio (scientific a)) (ratio (scientific b)) ≡ le_z y z
billionths-order a b y z e g =
    let v = (fixed-words a y).0 e in
    let w = (fixed-words b z).0 g in
    order_fixed (word_fixed a v.0) (word_fixed b w.0) ∙ rw (v.1, w.1)

-- "exactly": a change of the unit, by any factor, rounds to the same value
pub rounded-scaled : (k : ℕ) (b v : ℤ) (s : ℕ) → 0 < k → 0 < s → rounded (pos k *ℤ b) (pos k *ℤ v) (k * s) ≡ pos k *ℤ rounded b v s
rounded-scaled = rounded_units

-- A word with one bit per property, set where its value lane is filled, and its ones.
use Prim.Native.Nat.{ℕ, zero, suc, ◌+◌, ◌*◌, ◌/◌, ◌%◌, ◌^◌, ◌≤◌, ◌<◌}
use native.Mathlib.Nat.{pow-suc, one-mul, mod-eq_of_lt, not-suc-le-zero, le_of_suc-le-suc, pow-le-pow_right}
use native.Mathlib.Numerals.{add-one}
use native.Mathlib.Omega.{arith}
use mathlib.Core.Path.{◌≡◌, refl, sym, ap, ◌∙◌, subst}
use mathlib.Core.List.{List, [], ◌∷◌}
use mathlib.Core.Bool.{Bool, true, false, cond}
use lib.Dec.{lit<}
use lib.Pow.{pow-lt}
use lib.Bits.{bit_or, or_shifted_r}
use lib.Count.{ones, ones_step}
use lib.ListN.{length, get_or, take}
use lib.Seq.{take_all, length-take-le}
use Rattle.text.proofs.Bytes.{both}
use Rattle.rules.specs.Table as table
use Rattle.rules.specs.Questions.{is_filled, filled_in}
use Rattle.device.specs.Layout.{record_at, lanes_at, payload_at}
use Rattle.device.specs.Decode.{is_set, held_at, record_of}
use Rattle.device.specs.Parts.{word_of, ValueWord}
use Rattle.device.proofs.Described.{all, nth, at_most}
use Rattle.device.proofs.Lanes.{there_yes, there_no}

-- one bit more, or not
pub bit_kept : (set : Bool) (w i : ℕ) → set ≡ false → w ≡ cond set (2 ^ i) 0 + w
bit_kept set w i e = rw e (omega arith)

pub bit_added : (set : Bool) (w i : ℕ) → set ≡ true → i < 24 → w < 2 ^ i → bit_or w (1 * 2 ^ i % 4294967296) ≡ cond set (2 ^ i) 0 + w
bit_added set w i e h k =
    let q : 2 ^ i < 2 ^ 24 = pow-lt h in
    let m : 1 * 2 ^ i % 4294967296 ≡ 1 * 2 ^ i = mod-eq_of_lt (rw one-mul (omega arith)) in
    rw (e, m) (or_shifted_r 1 i w k ∙ rw one-mul)

-- the word of a list, its lowest bit first
bit : table.Property → ℕ
bit p = cond (is_filled p.value) 1 0

bit_lt : (p : table.Property) → bit p < 2
unfolding bit
bit_lt p = both (is_filled p.value) (λ e. rw e (omega arith)) (λ e. rw e (omega arith))

word-cons : (p : table.Property) (l : List table.Property) → word_of (p ∷ l) ≡ bit p + 2 * word_of l
unfolding word_of bit
word-cons p l = refl

filled-cons : (p : table.Property) (l : List table.Property) → filled_in (p ∷ l) ≡ bit p + filled_in l
unfolding filled_in bit
filled-cons p l = refl

no_ones : ones (word_of []) ≡ filled_in []
unfolding word_of filled_in ones
no_ones = refl

pub word_ones : (l : List table.Property) → ones (word_of l) ≡ filled_in l
word_ones [] = no_ones
word_ones (p ∷ l) =
    let lo : (bit p + 2 * word_of l) % 2 ≡ bit p = omega (arith, bit_lt p) in
    let hi : (bit p + 2 * word_of l) / 2 ≡ word_of l = omega (arith, bit_lt p) in
    ap ones (word-cons p l) ∙ ones_step (bit p + 2 * word_of l) ∙ rw (lo, hi, word_ones l) (sym (filled-cons p l))

word_lt : (l : List table.Property) → word_of l < 2 ^ length l
unfolding word_of
word_lt [] = omega arith
word_lt (p ∷ l) = rw (pow-suc 2 (length l)) (omega (arith, word-cons p l, bit_lt p, word_lt l))

pub word_small : (l : List table.Property) (i : ℕ) → i ≤ length l → word_of (take i l) < 2 ^ i
word_small l i h = subst (λ (k : ℕ). word_of (take i l) < 2 ^ k) (length-take-le i l h) (word_lt (take i l))

word-one : (p : table.Property) → word_of (p ∷ []) ≡ cond (is_filled p.value) (2 ^ 0) 0 + word_of []
unfolding word_of
word-one p = refl

word-step : (l : List table.Property) (i : ℕ) (z : table.Property) → i < length l → word_of (take (suc i) l) ≡ cond (is_filled (get_or l i z).value) (2 ^ i) 0 + word_of (take i l)
word-step [] i z h = absurd (not-suc-le-zero h)
word-step (p ∷ l) zero z h = word-one p
word-step (p ∷ l) (suc i) z h =
    let k = word-step l i z (le_of_suc-le-suc h) in
    let x = word-cons p (take (suc i) l) in
    let y = word-cons p (take i l) in
    both (is_filled (get_or l i z).value)
    (λ e. let m : word_of (take (suc i) l) ≡ 2 ^ i + word_of (take i l) = rw e at k in rw (e, pow-suc 2 i) (omega arith))
    (λ e. let m : word_of (take (suc i) l) ≡ 0 + word_of (take i l) = rw e at k in rw e (omega arith))

-- the loop of `value_word`
filled-there : (r : List ℕ) (a : ℕ) → is_filled (held_at r a) ≡ is_set r (a + payload_at)
unfolding is_filled
filled-there r a = both (is_set r (a + payload_at)) (λ e. ap is_filled (there_yes r a e) ∙ sym e) (λ e. ap is_filled (there_no r a e) ∙ sym e)

value-filled : (r : List ℕ) (i : ℕ) (z : table.Property) → i < length (all r) → is_filled (get_or (all r) i z).value ≡ is_set r (record_at i + lanes_at + payload_at)
unfolding record_of
value-filled r i z h = ap (λ (p : table.Property). is_filled p.value) (nth r i z h) ∙ filled-there r (record_at i + lanes_at)

pub word_none : (l : List table.Property) → 0 ≡ word_of (take 0 l)
unfolding word_of
word_none l = refl

pub word_more : (r : List ℕ) (i w a v : ℕ) (b : Bool) → i < length (all r) → a ≡ record_at i → b ≡ is_set r (a + (lanes_at + payload_at)) → w ≡ word_of (take i (all r)) → v ≡ cond b (2 ^ i) 0 + w
    → v ≡ word_of (take (i + 1) (all r))
word_more r i w a v b h e q u x =
    let z = record_of r 0 in
    let o : a + (lanes_at + payload_at) ≡ record_at i + lanes_at + payload_at = omega arith in
    let f : b ≡ is_filled (get_or (all r) i z).value = q ∙ ap (is_set r) o ∙ sym (value-filled r i z h) in
    x ∙ rw (f, u, add-one i) (sym (word-step (all r) i z h))

pub word-all : (r : List ℕ) (i w : ℕ) → length (all r) ≤ i → w ≡ word_of (take i (all r)) → ValueWord (all r) w
word-all r i w h e =
    let f : w ≡ word_of (all r) = e ∙ ap word_of (take_all i (all r) h) in
    let k : 2 ^ length (all r) ≤ 2 ^ 24 = pow-le-pow_right (lit< tt) {i = length (all r)} {j = 24} (at_most r) in
    record { word = f; small = omega (arith, word_lt (all r)) }

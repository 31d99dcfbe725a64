-- ASCII in words: no byte has its highest bit where the word has none of them.
use Prim.Native.Nat.{ℕ, zero, suc, ◌+◌, ◌*◌, ◌/◌, ◌%◌, ◌≤◌, ◌<◌, min}
use native.Mathlib.Nat.{div-add-mod', mod-lt}
use native.Mathlib.Numerals.{add-one}
use native.Mathlib.Omega.{arith}
use mathlib.Core.Path.{◌≡◌, refl, sym, ap, ◌∙◌}
use mathlib.Core.List.{List}
use lib.Bits.{bit_and, and_block, and_high}
use lib.ListN.{length, get_or}
use Rattle.little_endian.specs.Bytes.{num}
use Rattle.little_endian.proofs.Numbers.{num-step}
use Rattle.text.specs.Parts.{Ascii, AsciiRun}
use Rattle.text.proofs.Bytes.{at_most}
use Rattle.text.proofs.Each.{each_none, each-one, each_to, each_then}

-- ---- highest bits

high_bit : (b : ℕ) → b < 0x100 → bit_and b 0x80 ≡ 0 → b < 0x80
high_bit b h e =
    at_most b 0x7F (λ k. omega arith) λ k.
    let q : b / 0x80 ≡ 1 = omega (arith, div-add-mod' b 0x80, mod-lt b {m = 0x80} (omega arith)) in
    let f = ap (λ (n : ℕ). n % 2 * 0x80) (sym q) ∙ sym (and_high b 1 7) ∙ e in
    absurd (omega arith)

-- the lowest byte, and the others
bits-step : (v m b : ℕ) → b < 0x100 → bit_and (v * 0x100 + b) (m * 0x100 + 0x80) ≡ 0 → (bit_and v m ≡ 0) × (b < 0x80)
bits-step v m b h e =
    let f = sym (and_block 8 v m b 0x80 h (omega arith)) ∙ e in
    (omega arith, high_bit b h (omega arith))

pub run_then : {s : List ℕ} {i j k : ℕ} → Ascii s i j → AsciiRun s j k → AsciiRun s i k
run_then v w = record { run = each_then v w.run; stop = w.stop }

-- ---- words of them

-- the highest bits of w bytes
unfoldable pub highs : ℕ → ℕ
highs zero = 0
highs (suc w) = highs w * 0x100 + 0x80

pub ascii-word : (w n : ℕ) (s : List ℕ) (i r : ℕ) → w ≤ n → i + w ≤ length s → ((k : ℕ) → get_or s k 0 < 0x100) → r ≡ num w i s → bit_and r (highs n) ≡ 0 → Ascii s i (i + w)
unfolding highs
ascii-word zero n s i r l h b q e = each_to (omega arith) (each_none i (omega arith))
ascii-word (suc w) zero s i r l h b q e = absurd (omega arith)
ascii-word (suc w) (suc n) s i r l h b q e =
    let f : r ≡ num w (i + 1) s * 0x100 + get_or s i 0 = q ∙ ap (λ (n : ℕ). num n i s) (sym (add-one w)) ∙ omega (arith, num-step s i w (omega arith)) in
    let x = bits-step (num w (i + 1) s) (highs n) (get_or s i 0) (b i) (ap (λ (m : ℕ). bit_and m (highs n * 0x100 + 0x80)) (sym f) ∙ e) in
    each_then (each-one i (i + 1) refl (omega arith) x.1) (each_to (omega arith) (ascii-word w n s (i + 1) (num w (i + 1) s) (omega arith) (omega arith) b refl x.0))

-- eight bytes' bits serve fewer bytes too
pub ascii-block : (w : ℕ) (s : List ℕ) (i r : ℕ) → w ≤ 8 → i + w ≤ length s → ((k : ℕ) → get_or s k 0 < 0x100) → r ≡ num (min w 8) i s → bit_and r 0x8080808080808080 ≡ 0 → Ascii s i (i + w)
unfolding highs
ascii-block w s i r l h b q e = let m : min w 8 ≡ w = omega arith in ascii-word w 8 s i r l h b (rw m at q) e

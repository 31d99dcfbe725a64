-- What is written is read back.
use Rattle.std.specs.Prelude.{None, Some}
use Prim.Native.Nat.{ℕ, ◌+◌, ◌-◌, ◌*◌, ◌/◌, ◌%◌, ◌≤◌, ◌<◌}
use mathlib.Core.Path.{◌≡◌, refl, sym}
use mathlib.Core.List.{List, [], ◌∷◌}
use mathlib.Core.Bool.{Bool, true, false, ◌&&◌, and-false, false≢true}
use native.Mathlib.Omega.{arith}
use lib.Dec.{ltb, leb, eqb}
use lib.ListN.{length}
use borrow.Author.Tests.{le-leb, leb-true, ltb-true}
use Rattle.text.specs.Ascii.{ascii}
use Rattle.text.specs.Bytes.{eq_bytes, every}
use Rattle.text.proofs.Bytes.{both, at_most, and_both, eq_bytes-true}
use Rattle.lines.specs.Hex.{digit_of, digits_of, hex_of, value_of, is_digit, are_pairs, pairs, bytes_of}
use Rattle.lines.proofs.Pairing.{value_low, value-digit, value_middle, value-letter, value-high}
use Rattle.lines.proofs.Spelling.{digit_low, digit-high, digits-length}

-- ---- digits

value_of-digit : (v : ℕ) → v < 16 → value_of (digit_of v) ≡ v
value_of-digit v h = at_most v 9
    (λ k. rw (← digit_low v (omega arith), ← value-digit (48 + v) (omega arith) (omega arith)) (omega arith))
    (λ k. rw (← digit-high v (omega arith), ← value-letter (87 + v) (omega arith) (omega arith)) (omega arith))

digit_of-value : (b : ℕ) → value_of b ≤ 15 → digit_of (value_of b) ≡ b
digit_of-value b h = at_most b 47
    (λ k. absurd (omega (arith, value_low b (omega arith))))
    (λ k. at_most b 57
    (λ l. rw (← value-digit b (omega arith) l, ← digit_low (b - 48) (omega arith)) (omega arith))
    (λ l. at_most b 96
    (λ m. absurd (omega (arith, value_middle b l (omega arith))))
    (λ m. at_most b 102
    (λ n. rw (← value-letter b (omega arith) n, ← digit-high (b - 87) (omega arith)) (omega arith))
    (λ n. absurd (omega (arith, value-high b n))))))

-- ---- bytes

abbrev pub Byte : ℕ → Bool
Byte b = ltb b 256

is_digit_lem : (v : ℕ) → v < 16 → is_digit (digit_of v) ≡ true
unfolding is_digit
is_digit_lem v h = rw (value_of-digit v h, le-leb v 15 (omega arith))

pairs-back : (s : List ℕ) → every Byte s ≡ true → pairs (digits_of s) ≡ s
unfolding pairs digits_of every
pairs-back [] h = refl
pairs-back (b ∷ s) h =
    let q = and_both (ltb b 256) (every Byte s) h in
    let l : b < 256 = ltb-true b 256 q.0 in
    let e : b / 16 * 16 + b % 16 ≡ b = omega arith in
    rw (value_of-digit (b / 16) (omega arith), value_of-digit (b % 16) (omega arith), pairs-back s q.1, e)

are-pairs : (s : List ℕ) → every Byte s ≡ true → are_pairs (digits_of s) ≡ true
unfolding are_pairs digits_of every
are-pairs [] h = refl
are-pairs (b ∷ s) h =
    let q = and_both (ltb b 256) (every Byte s) h in
    let l : b < 256 = ltb-true b 256 q.0 in
    rw (is_digit_lem (b / 16) (omega arith), is_digit_lem (b % 16) (omega arith), are-pairs s q.1)

no_minus : (a b : ℕ) (s : List ℕ) → eq_bytes (a ∷ (b ∷ s)) (ascii "-") ≡ false
unfolding eq_bytes
no_minus a b s = and-false (eqb a 45)

minus : (b : ℕ) (s : List ℕ) → eq_bytes (digits_of (b ∷ s)) (ascii "-") ≡ false
unfolding digits_of
minus b s = no_minus (digit_of (b / 16)) (digit_of (b % 16)) (digits_of s)

some_back : (b : ℕ) (s : List ℕ) → every Byte (b ∷ s) ≡ true → bytes_of (digits_of (b ∷ s)) ≡ Some (b ∷ s)
unfolding bytes_of
some_back b s h =
    let l : leb 1 (length (digits_of (b ∷ s))) ≡ true = le-leb 1 (length (digits_of (b ∷ s))) (omega (arith, digits-length (b ∷ s))) in
    rw (minus b s, l, are-pairs (b ∷ s) h, pairs-back (b ∷ s) h)

pub hex-back : (s : List ℕ) → every Byte s ≡ true → bytes_of (hex_of s) ≡ Some s
unfolding hex_of bytes_of eq_bytes
hex-back [] h = refl
hex-back (b ∷ s) h = some_back b s h

-- ---- and from no other word

digits_of-pairs : (w : List ℕ) → are_pairs w ≡ true → digits_of (pairs w) ≡ w
unfolding are_pairs is_digit pairs digits_of
digits_of-pairs [] h = refl
digits_of-pairs (a ∷ []) h = absurd (false≢true h)
digits_of-pairs (a ∷ (b ∷ t)) h =
    let p = and_both (leb (value_of a) 15) (leb (value_of b) 15 && are_pairs t) h in
    let q = and_both (leb (value_of b) 15) (are_pairs t) p.1 in
    let x : value_of a ≤ 15 = leb-true (value_of a) 15 p.0 in
    let y : value_of b ≤ 15 = leb-true (value_of b) 15 q.0 in
    let e : (value_of a * 16 + value_of b) / 16 ≡ value_of a = omega arith in
    let f : (value_of a * 16 + value_of b) % 16 ≡ value_of b = omega arith in
    rw (e, f, digit_of-value a x, digit_of-value b y, digits_of-pairs t q.1)

filled_hex : (w : List ℕ) → 1 ≤ length w → are_pairs w ≡ true → w ≡ hex_of (pairs w)
unfolding hex_of pairs are_pairs
filled_hex [] l h = absurd (omega arith)
filled_hex (a ∷ []) l h = absurd (false≢true h)
filled_hex (a ∷ (b ∷ t)) l h = sym (digits_of-pairs (a ∷ (b ∷ t)) h)

pub hex-word : (w s : List ℕ) → bytes_of w ≡ Some s → w ≡ hex_of s
unfolding bytes_of hex_of
hex-word w s e = both (eq_bytes w (ascii "-"))
    (λ p. let n : [] ≡ s = inside [] s (rw p at e) in rw (← n) (eq_bytes-true w (ascii "-") p))
    (λ p. both (leb 1 (length w) && are_pairs w)
    (λ q.
    let n : pairs w ≡ s = inside (pairs w) s (rw (p, q) at e) in
    let r = and_both (leb 1 (length w)) (are_pairs w) q in
    rw (← n) (filled_hex w (leb-true 1 (length w) r.0) r.1))
    (λ q. absurd (outside s (rw (p, q) at e))))
  where
    inside : (a b : List ℕ) → Some a ≡ Some b → a ≡ b
    inside a b q = cc

    outside : (b : List ℕ) → None ≡ Some b → ⊥
    outside b q = let z : ◌≡◌ {A = ℕ} 0 1 = cc in omega arith

-- Reading a character at a time, and the runs of ASCII between them.
use Prim.Native.Nat.{ℕ, zero, suc, ◌+◌, ◌-◌, ◌≤◌, ◌<◌}
use native.Mathlib.Omega.{arith}
use mathlib.Core.Path.{◌≡◌, refl, sym, ap, ◌∙◌}
use mathlib.Core.List.{List}
use mathlib.Core.Bool.{true, false}
use lib.ListN.{length, drop, get_or}
use lib.Dec.{leb}
use borrow.Author.Tests.{le-leb, lt-leb, leb-true, leb-false}
use Rattle.text.specs.Utf8Place.{Due, due, ready, never, low, high, first, next}
use Rattle.text.specs.Parts.{Decides, utf8_from, ByteIn, Begins, Passes, Ascii, AsciiRun}
use Rattle.text.proofs.Steps.{extra, first_1, first_2, first-long, next-ready, never_ends, at-end, one_byte, due_in, due_out}

pub byte_decides : (s : List ℕ) (i lo hi : ℕ) → i < length s → lo ≤ get_or s i 0 → Decides (ByteIn s i lo hi) (leb (get_or s i 0) hi)
byte_decides s i lo hi h k = record {
  yes = λ q. record { inside = h; least = k; most = leb-true (get_or s i 0) hi q };
  no = λ q v. omega (arith, leb-false (get_or s i 0) hi q, v.most);
}

-- ---- a character

module _ {s : List ℕ} {i b : ℕ} (v : Begins s i b) where
  begins : (d : Due) → first b ≡ d → utf8_from ready (drop i s) ≡ utf8_from d (drop (i + 1) s)
  begins d e = one_byte s ready i refl v.inside ∙ ap (λ (x : Due). utf8_from x (drop (i + 1) s)) (ap (next ready) (sym v.byte) ∙ next-ready b ready refl ∙ e)

  pub no-first : first b ≡ never → utf8_from ready (drop i s) ≡ false
  no-first e = begins never e ∙ never_ends (drop (i + 1) s)

  module _ (h : 0xC1 < b) (k : b ≤ 0xDF) where
    two-first : utf8_from ready (drop i s) ≡ utf8_from (due 1 0x80 0xBF) (drop (i + 1) s)
    two-first = begins (due 1 0x80 0xBF) (first_2 b h k)

    pub two-cut : (ByteIn s (i + 1) 0x80 0xBF → ⊥) → utf8_from ready (drop i s) ≡ false
    two-cut n = two-first ∙ due_out 0 n

    pub two : ByteIn s (i + 1) 0x80 0xBF → Passes s i (i + 2)
    two x = record { past = omega arith; to = omega (arith, x.inside); same = two-first ∙ due_in 0 (i + 2) (omega arith) x }

  module _ {lo hi : ℕ} (p : lo ≡ low b) (q : hi ≡ high b) (h : 0xDF < b) (k : b ≤ 0xF4) where
    long-first : utf8_from ready (drop i s) ≡ utf8_from (due (suc (suc (extra b))) lo hi) (drop (i + 1) s)
    long-first = begins (due (suc (suc (extra b))) lo hi) (first-long b h k ∙ rw (p, q))

    pub long-cut : (ByteIn s (i + 1) lo hi → ⊥) → utf8_from ready (drop i s) ≡ false
    long-cut n = long-first ∙ due_out (suc (extra b)) n

    module _ (x : ByteIn s (i + 1) lo hi) where
      long-second : utf8_from ready (drop i s) ≡ utf8_from (due (suc (extra b)) 0x80 0xBF) (drop (i + 2) s)
      long-second = long-first ∙ due_in (suc (extra b)) (i + 2) (omega arith) x

      pub three-cut : (ByteIn s (i + 2) 0x80 0xBF → ⊥) → utf8_from ready (drop i s) ≡ false
      three-cut n = long-second ∙ due_out (extra b) n

      module _ (y : ByteIn s (i + 2) 0x80 0xBF) where
        long_third : (n : ℕ) → extra b ≡ n → utf8_from ready (drop i s) ≡ utf8_from (due n 0x80 0xBF) (drop (i + 3) s)
        long_third n e = long-second ∙ due_in (extra b) (i + 3) (omega arith) y ∙ ap (λ (m : ℕ). utf8_from (due m 0x80 0xBF) (drop (i + 3) s)) e

        pub three : b < 0xF0 → Passes s i (i + 3)
        unfolding extra
        three g = record { past = omega arith; to = omega (arith, y.inside); same = long_third 0 (rw (le-leb b 0xEF (omega arith))) }

        module _ (g : 0xEF < b) where
          four_third : utf8_from ready (drop i s) ≡ utf8_from (due 1 0x80 0xBF) (drop (i + 3) s)
          unfolding extra
          four_third = long_third 1 (rw (lt-leb b 0xEF g))

          pub four-cut : (ByteIn s (i + 3) 0x80 0xBF → ⊥) → utf8_from ready (drop i s) ≡ false
          four-cut n = four_third ∙ due_out 0 n

          pub four : ByteIn s (i + 3) 0x80 0xBF → Passes s i (i + 4)
          four z = record { past = omega arith; to = omega (arith, z.inside); same = four_third ∙ due_in 0 (i + 4) (omega arith) z }

-- ---- ASCII between characters

ascii-goes : (s : List ℕ) (n i j : ℕ) → i + n ≡ j → Ascii s i j → utf8_from ready (drop i s) ≡ utf8_from ready (drop j s)
ascii-goes s zero i j e v = let f : i ≡ j = omega arith in ap (λ (k : ℕ). utf8_from ready (drop k s)) f
ascii-goes s (suc n) i j e v =
    let h = v.to in
    let b = v.all i (omega arith) (omega arith) in
    one_byte s ready i refl (omega arith)
    ∙ ap (λ (x : Due). utf8_from x (drop (i + 1) s)) (next-ready (get_or s i 0) ready refl ∙ first_1 (get_or s i 0) (omega arith))
    ∙ ascii-goes s n (i + 1) j (omega arith) (record { from = omega arith; to = h; all = λ k p q. v.all k (omega arith) q })

-- ---- the loop: what is left of the bytes says what the whole says, and a character of several bytes begins it
pub record Left (s : List ℕ) (i : ℕ) : Type 0 where
  pub fits : i ≤ length s
  pub several : i < length s → 0x80 ≤ get_or s i 0
  pub same : utf8_from ready (drop i s) ≡ utf8_from ready s

module _ {s : List ℕ} {i : ℕ} where
  left-run : {e : ℕ} → utf8_from ready (drop e s) ≡ utf8_from ready s → AsciiRun s e i → Left s i
  left-run {e} h r = let v = r.run in record { fits = v.to; several = r.stop; same = sym (ascii-goes s (i - e) e i (omega (arith, v.from)) v) ∙ h }

  pub left-start : AsciiRun s 0 i → Left s i
  left-start r = left-run refl r

module _ {s : List ℕ} {i : ℕ} (l : Left s i) where
  pub left-next : {e j : ℕ} → Passes s i e → AsciiRun s e j → Left s j
  left-next p r = left-run (sym p.same ∙ l.same) r

  pub left-broken : utf8_from ready (drop i s) ≡ false → false ≡ utf8_from ready s
  left-broken e = sym e ∙ l.same

  pub left_end : length s ≤ i → true ≡ utf8_from ready s
  left_end h = sym (at-end s ready i h) ∙ l.same

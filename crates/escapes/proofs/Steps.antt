-- Laws of the functions up to the step.
use Rattle.std.specs.Prelude.{Option, None}
use Prim.Native.Nat.{ℕ, ◌+◌, ◌-◌, ◌≤◌, ◌<◌, min}
use native.Mathlib.Omega.{arith}
use mathlib.Core.Path.{◌≡◌, sym, ap, ◌∙◌}
use mathlib.Core.List.{List}
use lib.ListN.{length, take, drop, get_or, length-drop, get_or-append, replicate}
use lib.Seq.{take_all}
use borrow.Author.Tests.{eq-eqb, ne_eqb, lt-ltb, le-ltb}
use Rattle.json_text.specs.Bytes.{byte}
use Rattle.json_text.proofs.Bytes.{byte_in}
use Rattle.escapes.specs.declared.Escaped.{Escaped}
use Rattle.escapes.specs.declared.Step.{Step}
use Rattle.escapes.specs.declared.Step.TheVariants.{Byte, Stop, Over}
use Rattle.escapes.specs.declared.Coded.{Coded}
use Rattle.escapes.specs.Escapes.{escape_of, utf8, escaped_char}
use Rattle.escapes.specs.Parts.{coded_of, char_step, escape_step, step_at}
use Rattle.escapes.proofs.Escapes.{utf8-few, Writable, char-good}

module _ (c : ℕ) {w : Coded} (q : w ≡ coded_of c) where
  coded_n : w.n ≡ length (utf8 c)
  unfolding coded_of
  coded_n = ap (λ (x : Coded). x.n) q

  coded_at : (o : ℕ) → o < length (utf8 c) → get_or w.bytes o 0 ≡ get_or (utf8 c) o 0
  unfolding coded_of
  coded_at o h = ap (λ (x : Coded). get_or x.bytes o 0) q ∙ get_or-append (utf8 c) (replicate (4 - length (utf8 c)) 0) 0 o h

  pub coded-few : w.n ≤ 4
  coded-few = let a = coded_n in let b = utf8-few c in omega arith

  module _ (o i e : ℕ) where
    pub char-over : w.n ≤ o → Over ≡ char_step c o i e
    unfolding char_step
    char-over h = let a = coded_n in rw (le-ltb (o + 1) (length (utf8 c)) (omega arith), char_step) (rw (le-ltb o (length (utf8 c)) (omega arith)))

    pub char-more : o + 1 < w.n → Byte (get_or w.bytes o 0) i (o + 1) ≡ char_step c o i e
    unfolding char_step
    char-more h = let a = coded_n in rw (lt-ltb (o + 1) (length (utf8 c)) (omega arith), char_step) (ap (λ (b : ℕ). Byte b i (o + 1)) (coded_at o (omega arith)))

    pub char-last : o < w.n → w.n ≤ o + 1 → Byte (get_or w.bytes o 0) e 0 ≡ char_step c o i e
    unfolding char_step
    char-last h k = let a = coded_n in rw (le-ltb (o + 1) (length (utf8 c)) (omega arith), char_step) (rw (lt-ltb o (length (utf8 c)) (omega arith)) (ap (λ (b : ℕ). Byte b e 0) (coded_at o (omega arith))))

module _ (s : List ℕ) (i o : ℕ) where
  pub step-over : length s ≤ i → Over ≡ step_at s i o
  unfolding step_at
  step-over h = rw (le-ltb i (length s) h, step_at)

  module _ (h : i < length s) where
    pub step-plain : (get_or s i 0 ≡ 0x5C → ⊥) → Byte (get_or s i 0) (i + 1) 0 ≡ step_at s i o
    unfolding step_at
    step-plain n =
        let e = byte_in s i h in
        rw (lt-ltb i (length s) h, step_at) (rw (ne_eqb (byte s i) 0x5C (λ q. n (e ∙ q))) (ap (λ (b : ℕ). Byte b (i + 1) 0) e))

    module _ (b : get_or s i 0 ≡ 0x5C) where
      pub step-escape : escape_step (escape_of (drop i s)) i o (length s) ≡ step_at s i o
      unfolding step_at
      step-escape = rw (lt-ltb i (length s) h, step_at) (rw (eq-eqb (byte s i) 0x5C (sym (byte_in s i h) ∙ b)))

      module _ {r : Option Escaped} (e : r ≡ escape_of (take (length s - i) (drop i s))) where
        pub escape-here : r ≡ escape_of (drop i s)
        escape-here = e ∙ ap escape_of (take_all (length s - i) (drop i s) (rw (length-drop i s) (omega arith)))

        pub step-half : r ≡ None → Stop ≡ step_at s i o
        unfolding escape_step
        step-half q = ap (λ (x : Option Escaped). escape_step x i o (length s)) (sym q ∙ escape-here) ∙ step-escape

        pub step-char : {c n p : ℕ} {t : Step} → r ≡ escaped_char c n → p ≡ min (i + 1 + n) (length s) → t ≡ char_step c o i p → t ≡ step_at s i o
        unfolding escape_step
        step-char {c} {n} q x y = y ∙ ap (char_step c o i) x ∙ ap (λ (z : Option Escaped). escape_step z i o (length s)) (sym q ∙ escape-here) ∙ step-escape

        pub step_writable : {c n : ℕ} → r ≡ escaped_char c n → Writable (drop i s) c n
        step_writable q = char-good (drop i s) (rw (length-drop i s) (omega arith)) escape-here q

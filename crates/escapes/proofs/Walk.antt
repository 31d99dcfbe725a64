-- The step goes through what the bytes write.
use Rattle.std.specs.Prelude.{None, Some, Option}
use Prim.Native.Nat.{ℕ, zero, suc, ◌+◌, ◌*◌, ◌-◌, ◌≤◌, ◌<◌, min}
use native.Mathlib.Nat.{min-eq_left}
use native.Mathlib.Numerals.{add-one}
use native.Mathlib.Omega.{arith}
use mathlib.Core.Path.{◌≡◌, refl, sym, ap, ◌∙◌, subst}
use mathlib.Core.List.{List, [], ◌∷◌, ◌++◌}
use mathlib.Core.Bool.{true, false}
use lib.ListN.{length, drop, get_or, length-drop, length-append, get_or-append, drop_of_length-le}
use lib.Seq.{drop-cons, drop-nil, drop-drop, drop_at}
use lib.Dec.{eqb, ltb}
use borrow.Author.Tests.{eqb-true, eqb-false, eq-eqb, ne_eqb, ltb-true, ltb-false, lt-ltb}
use Rattle.text.proofs.Bytes.{both}
use Rattle.json_text.proofs.Bytes.{split}
use Rattle.escapes.specs.declared.Escaped.{Escaped}
use Rattle.escapes.specs.declared.Step.{Step}
use Rattle.escapes.specs.declared.Step.TheVariants.{Byte, Stop, Over}
use Rattle.escapes.specs.Escapes.{escape_of, utf8, escaped_char}
use Rattle.escapes.specs.Decode.{Decoded, whole, half, join, decode_after, decode, bytes_of, half_of}
use Rattle.escapes.specs.Parts.{char_step, escape_step, step_at}
use Rattle.escapes.proofs.Escapes.{utf8-some, utf8-few, Writable, char-good}
use Rattle.escapes.proofs.Steps.{step-over, step-plain, step-escape}

-- ---- with half a pair, and without

pub no-half : (d : Decoded) → half_of d ≡ None → d ≡ whole (bytes_of d)
unfolding half_of bytes_of
no-half (whole t) e = refl
no-half (half p) e = absurd (let z : ◌≡◌ {A = ℕ} 0 1 = cc in omega arith)

pub some-half : (d : Decoded) {p : ℕ} → half_of d ≡ Some p → d ≡ half p
unfolding half_of
some-half (whole t) e = absurd (let z : ◌≡◌ {A = ℕ} 0 1 = cc in omega arith)
some-half (half q) e = cc

-- ---- strings without the place of a half

unfoldable pub content : Decoded → Decoded
content (whole t) = whole t
content (half p) = half 0

pub whole_of : (d : Decoded) → half_of d ≡ None → content d ≡ whole (bytes_of d)
unfolding content
whole_of d e = ap content (no-half d e)

-- bytes in front
unfoldable pub front : List ℕ → Decoded → Decoded
front w (whole t) = whole (w ++ t)
front w (half p) = half p

-- without the first o bytes
unfoldable pub cut : ℕ → Decoded → Decoded
cut o (whole t) = whole (drop o t)
cut o (half p) = half p

front-none : (x : Decoded) → front [] x ≡ x
unfolding front
front-none (whole t) = refl
front-none (half p) = refl

cut-none : (x : Decoded) → cut 0 x ≡ x
unfolding cut
cut-none (whole t) = refl
cut-none (half p) = refl

-- one byte of those in front
front-more : (w : List ℕ) (o : ℕ) (x : Decoded) → o < length w → cut o (front w x) ≡ front (get_or w o 0 ∷ []) (cut (o + 1) (front w x))
unfolding front cut
front-more w o (whole t) h =
    let l : o < length (w ++ t) = rw (length-append w t) (omega arith) in
    ap whole (drop-cons (w ++ t) o 0 l ∙ rw (get_or-append w t 0 o h, add-one o))
front-more w o (half p) h = refl

front-past : (w : List ℕ) (o : ℕ) (x : Decoded) → o ≡ length w → cut o (front w x) ≡ x
unfolding front cut
front-past w o (whole t) e = ap whole (drop_at w t o (sym e))
front-past w o (half p) e = refl

-- ---- what is written from a place on

content-join : (w : List ℕ) (d : Decoded) → content (join w d) ≡ front w (content d)
unfolding content join front
content-join w (whole t) = refl
content-join w (half p) = refl

-- an escape's bytes are passed
skip : (n : ℕ) (s : List ℕ) → content (decode_after n s) ≡ content (decode (drop n s))
unfolding decode_after
skip zero s = refl
skip (suc n) [] = refl
skip (suc n) (b ∷ s) = content-join [] (decode_after n s) ∙ front-none (content (decode_after n s)) ∙ skip n s

module _ (b : ℕ) (s : List ℕ) where
  pub decode-plain : (b ≡ 0x5C → ⊥) → decode (b ∷ s) ≡ join (b ∷ []) (decode s)
  unfolding decode_after
  decode-plain n = rw (ne_eqb b 0x5C n, decode_after)

  module _ (e : b ≡ 0x5C) where
    pub decode-char : {c n : ℕ} → escape_of (b ∷ s) ≡ escaped_char c n → decode (b ∷ s) ≡ join (utf8 c) (decode_after n s)
    unfolding decode_after
    decode-char q = rw (eq-eqb b 0x5C e, decode_after) (rw q)

    pub decode-half : escape_of (b ∷ s) ≡ None → decode (b ∷ s) ≡ half 0
    unfolding decode_after
    decode-half q = rw (eq-eqb b 0x5C e, decode_after) (rw q)

-- the bytes that the first byte, or the escape that it begins, writes
unfoldable pub piece : List ℕ → List ℕ
piece [] = []
piece (b ∷ s) = elim (eqb b 0x5C) [ true ↦ elim (escape_of (b ∷ s)) [ Some t ↦ utf8 t.code | None ↦ [] ] | false ↦ b ∷ [] ]

module _ (b : ℕ) (s : List ℕ) where
  piece-plain : (b ≡ 0x5C → ⊥) → piece (b ∷ s) ≡ b ∷ []
  unfolding piece
  piece-plain n = rw (ne_eqb b 0x5C n, piece)

  piece-char : b ≡ 0x5C → {c n : ℕ} → escape_of (b ∷ s) ≡ escaped_char c n → piece (b ∷ s) ≡ utf8 c
  unfolding piece
  piece-char e q = rw (eq-eqb b 0x5C e, piece) (rw q)

-- what s writes from i on, but for the first o bytes
unfoldable pub tail : List ℕ → ℕ → ℕ → Decoded
tail s i o = cut o (content (decode (drop i s)))

-- a place at which bytes begin
pub record Place (s : List ℕ) (i o : ℕ) : Type 0 where
  pub to : i ≤ length s
  pub due : o ≤ length (piece (drop i s)) - 1
  pub room : i + o ≤ length s

-- a byte and what is left after it; the measure falls
pub record Stepped (s : List ℕ) (i o b p q : ℕ) : Type 0 where
  pub same : tail s i o ≡ front (b ∷ []) (tail s p q)
  pub less : 4 * (length s - p) - q < 4 * (length s - i) - o
  pub far : i + o < p + q
  pub place : Place s p q

abbrev After : List ℕ → ℕ → ℕ → Step → Type 0
After s i o (Byte b p q) = Stepped s i o b p q
After s i o Stop = tail s i o ≡ half 0
After s i o Over = tail s i o ≡ whole []

pub start-place : (s : List ℕ) → Place s 0 0
start-place s = record { to = omega arith; due = omega arith; room = omega arith }

pub start-tail : (s : List ℕ) → tail s 0 0 ≡ content (decode s)
unfolding tail
start-tail s = cut-none (content (decode s))

-- the byte at i, and the others
pub byte-first : (s : List ℕ) (i : ℕ) → i < length s → drop i s ≡ get_or s i 0 ∷ drop (i + 1) s
byte-first s i h = drop-cons s i 0 h ∙ ap (λ (k : ℕ). get_or s i 0 ∷ drop k s) (sym (add-one i))

at_place : (s : List ℕ) (i : ℕ) → i ≤ length s → Place s i 0
at_place s i h = record { to = h; due = omega arith; room = omega arith }

module _ (s : List ℕ) (i o : ℕ) (v : Place s i o) where
  after-over : length s ≤ i → After s i o Over
  unfolding tail decode_after content cut
  after-over h = rw (drop_of_length-le s h) (ap whole (drop-nil o))

  module _ (h : i < length s) where
    first : drop i s ≡ get_or s i 0 ∷ drop (i + 1) s
    first = byte-first s i h

    after-plain : (get_or s i 0 ≡ 0x5C → ⊥) → After s i o (Byte (get_or s i 0) (i + 1) 0)
    unfolding tail
    after-plain n =
        let e = ap (λ (l : List ℕ). length (piece l)) first ∙ ap length (piece-plain (get_or s i 0) (drop (i + 1) s) n) in
        let z : o ≡ 0 = omega (arith, v.due) in
        record {
          same =
              ap (λ (k : ℕ). cut k (content (decode (drop i s)))) z
              ∙ cut-none (content (decode (drop i s)))
              ∙ ap (λ (l : List ℕ). content (decode l)) first
              ∙ ap content (decode-plain (get_or s i 0) (drop (i + 1) s) n)
              ∙ content-join (get_or s i 0 ∷ []) (decode (drop (i + 1) s))
              ∙ ap (front (get_or s i 0 ∷ [])) (sym (cut-none (content (decode (drop (i + 1) s)))));
          less = omega arith;
          far = omega arith;
          place = at_place s (i + 1) (omega arith);
        }

    module _ (b : get_or s i 0 ≡ 0x5C) where
      after-half : escape_of (drop i s) ≡ None → After s i o Stop
      unfolding tail content cut
      after-half q = ap (λ (l : List ℕ). cut o (content (decode l))) first ∙ ap (λ (d : Decoded). cut o (content d)) (decode-half (get_or s i 0) (drop (i + 1) s) b (ap escape_of (sym first) ∙ q))

      module _ {c n : ℕ} (q : escape_of (drop i s) ≡ escaped_char c n) where
        next : ℕ
        next = min (i + 1 + n) (length s)

        here : escape_of (get_or s i 0 ∷ drop (i + 1) s) ≡ escaped_char c n
        here = ap escape_of (sym first) ∙ q

        clipped : drop (i + 1 + n) s ≡ drop next s
        unfolding next
        clipped = split (i + 1 + n) (length s)
            (λ k. ap (λ (j : ℕ). drop j s) (sym (min-eq_left k)))
            (λ k. drop_of_length-le s {i = i + 1 + n} (omega arith) ∙ sym (drop_of_length-le s {i = min (i + 1 + n) (length s)} (omega arith)))

        rest : content (decode_after n (drop (i + 1) s)) ≡ tail s next 0
        unfolding tail
        rest =
            skip n (drop (i + 1) s)
            ∙ ap (λ (l : List ℕ). content (decode l)) (drop-drop n (i + 1) s ∙ clipped)
            ∙ sym (cut-none (content (decode (drop next s))))

        all : content (decode (drop i s)) ≡ front (utf8 c) (tail s next 0)
        all =
            ap (λ (l : List ℕ). content (decode l)) first
            ∙ ap content (decode-char (get_or s i 0) (drop (i + 1) s) b here)
            ∙ content-join (utf8 c) (decode_after n (drop (i + 1) s))
            ∙ ap (front (utf8 c)) rest

        whole-piece : length (piece (drop i s)) ≡ length (utf8 c)
        whole-piece = ap (λ (l : List ℕ). length (piece l)) first ∙ ap length (piece-char (get_or s i 0) (drop (i + 1) s) b here)

        fine : Writable (drop i s) c n
        fine = char-good (drop i s) (rw (length-drop i s) (omega arith)) refl q

        fits : o < length (utf8 c)
        fits = let w = whole-piece in let k = utf8-some c in omega (arith, v.due)

        after_more : o + 1 < length (utf8 c) → After s i o (Byte (get_or (utf8 c) o 0) i (o + 1))
        unfolding tail
        after_more k = record {
          same = ap (cut o) all ∙ front-more (utf8 c) o (tail s next 0) fits ∙ ap (λ (x : Decoded). front (get_or (utf8 c) o 0 ∷ []) (cut (o + 1) x)) (sym all);
          less = let m = utf8-few c in omega arith;
          far = omega arith;
          place = record { to = v.to; due = let w = whole-piece in omega arith; room = let m = fine.fits in let l = length-drop i s in omega arith };
        }

        shown : length (utf8 c) ≤ o + 1 → tail s i o ≡ front (get_or (utf8 c) o 0 ∷ []) (tail s next 0)
        unfolding tail
        shown k = ap (cut o) all ∙ front-more (utf8 c) o (tail s next 0) fits ∙ ap (front (get_or (utf8 c) o 0 ∷ [])) (front-past (utf8 c) (o + 1) (tail s next 0) (let f = fits in omega arith))

        after_last : length (utf8 c) ≤ o + 1 → After s i o (Byte (get_or (utf8 c) o 0) next 0)
        unfolding next
        after_last k =
            let f = fits in
            let m = utf8-few c in
            let l = length-drop i s in
            let x = fine.fits in
            let y = fine.few in
            record { same = shown k; less = omega arith; far = omega arith; place = at_place s next (omega arith) }

        after-char : After s i o (char_step c o i next)
        unfolding char_step
        after-char = both (ltb (o + 1) (length (utf8 c)))
            (λ e. rw (e, char_step) (after_more (ltb-true _ _ e)))
            (λ e. rw (e, char_step) (rw (lt-ltb o (length (utf8 c)) fits) (after_last (ltb-false _ _ e))))

      after-escape : (x : Option Escaped) → escape_of (drop i s) ≡ x → After s i o (escape_step x i o (length s))
      unfolding escape_step next
      after-escape (Some t) q = after-char q
      after-escape None q = after-half q

  pub after : After s i o (step_at s i o)
  after = split (length s) i
      (λ h. subst (After s i o) (step-over s i o h) (after-over h))
      (λ h. both (eqb (get_or s i 0) 0x5C)
      (λ e. let b = eqb-true _ _ e in subst (After s i o) (step-escape s i o h b) (after-escape h b (escape_of (drop i s)) refl))
      (λ e. let n = eqb-false _ _ e in subst (After s i o) (step-plain s i o h n) (after-plain h n)))

  -- of the variant that a match found
  pub stepped : {r : Step} {b p q : ℕ} → r ≡ step_at s i o → r ≡ Byte b p q → Stepped s i o b p q
  stepped e f = subst (After s i o) (sym e ∙ f) after

  pub stopped : {r : Step} → r ≡ step_at s i o → r ≡ Stop → tail s i o ≡ half 0
  stopped e f = subst (After s i o) (sym e ∙ f) after

  pub over : {r : Step} → r ≡ step_at s i o → r ≡ Over → tail s i o ≡ whole []
  over e f = subst (After s i o) (sym e ∙ f) after

-- What this crate promises beyond its contracts.
use Rattle.std.specs.Prelude.{Ok, None, Some, Err, Result, Option}
use Prim.Native.Nat.{ℕ, zero, suc, ◌-◌, ◌≤◌, ◌<◌}
use native.Mathlib.Omega.{arith}
use mathlib.Core.Path.{◌≡◌, refl, sym, ap, ◌∙◌, subst}
use mathlib.Core.Logic.{◌⊎◌, inl, inr, ◌↔◌}
use mathlib.Core.List.{List, [], ◌∷◌, ◌++◌, append-nil}
use mathlib.Core.Bool.{true, false, false≢true}
use lib.ListN.{length, take, drop, length-drop, length-append}
use lib.Seq.{take_at}
use lib.Dec.{eqb}
use borrow.Author.Tests.{eqb-true, eqb-false, le-leb, lt-leb}
use Rattle.text.specs.Bytes.{slice}
use Rattle.text.specs.Scalars.{Scalar, Encodes}
use Rattle.text.specs.Utf8.{is_utf8}
use Rattle.text.specs.Utf8Place.{ready}
use Rattle.text.specs.Parts.{utf8_from}
use Rattle.text.proofs.Bytes.{both, eq_bytes-true, eq_bytes-refl}
use Rattle.text.proofs.Utf8.{utf8_contract, is_utf8_is}
use Rattle.json_text.specs.Bytes.{byte}
use Rattle.json_text.specs.Strings.{string_at, raw_bytes, is_plain}
use Rattle.json_text.proofs.Bytes.{inside=, split}
use Rattle.escapes.specs.declared.Escaped.{Escaped}
use Rattle.escapes.specs.Escapes.{escape_of, utf8}
use Rattle.escapes.specs.Decode.{Decoded, whole, half, join, decode_after, decode, bytes_of, written, half_of, is_this, alike, decoding_of, filled, Decodes, HalfAt}
use Rattle.escapes.specs.Writes.{Writes, WritesAll, none, more, in_utf8}
use Rattle.escapes.proofs.Escapes.{utf8_encodes}
use Rattle.escapes.proofs.Walk.{no-half, some-half, decode-plain, decode-char, decode-half}
use Rattle.escapes.proofs.Loops.{decode-itself, plain-written}
use Rattle.escapes.proofs.Buffers.{filled_none}
use Rattle.escapes.proofs.Sizes.{no_longer}
use Rattle.escapes.proofs.Writing.{encoding-one, every_way}
use Rattle.escapes.proofs.Reading.{Reads, chars, broken}
use Rattle.escapes.proofs.Strings.{reads, written-utf8, escaped_shorter}

-- ---- what is decoded

-- A string without a backslash is its own bytes.
pub plain : (r : List ℕ) → is_plain r ≡ true → decode r ≡ whole r
plain = decode-itself

pub plain-bytes : (r : List ℕ) → is_plain r ≡ true → written r ≡ r
plain-bytes = plain-written

-- A string has no more bytes than stand between its quotes, so that a buffer of that many holds it; and fewer where there is a backslash.
pub shorter : (r : List ℕ) → length (written r) ≤ length r
unfolding written
shorter r = let h = no_longer 0 r in omega arith

pub strictly_shorter : (s : List ℕ) (k : ℕ) → is_plain (raw_bytes s k) ≡ false → length (written (raw_bytes s k)) < length (raw_bytes s k)
strictly_shorter = escaped_shorter

-- In a text in UTF-8 it is UTF-8.
pub in-utf8 : (s : List ℕ) (k : ℕ) → is_utf8 s ≡ true → is_utf8 (written (raw_bytes s k)) ≡ true
in-utf8 = written-utf8

-- A character is decoded whatever way it is written: to its bytes in UTF-8, of which there are just these.
pub one_written : {c : ℕ} {w : List ℕ} → Scalar c → Writes c w → decode w ≡ whole (utf8 c)
unfolding in_utf8
one_written {c} {w} n a = ap (λ (r : List ℕ). decode r) (sym (append-nil w)) ∙ every_way (more n a none) ∙ ap whole (append-nil (utf8 c))

pub encoded : (c : ℕ) → c ≤ 0x10FFFF → (w : List ℕ) → Encodes c w ↔ (w ≡ utf8 c)
encoded c h w = (encoding-one c, λ e. subst (Encodes c) (sym e) (utf8_encodes c h))

-- Any text, written with any mixture of escapes, is decoded to that text.
pub all-written : {cs w : List ℕ} → WritesAll cs w → decode w ≡ whole (in_utf8 cs)
all-written = every_way

-- A string of a JSON text in UTF-8 is characters, each written in one of these ways, or it has half a pair.
pub reading : (s : List ℕ) (k e : ℕ) → is_utf8 s ≡ true → string_at s k ≡ Ok e → ((cs : List ℕ) × WritesAll cs (raw_bytes s k)) ⊎ ((p : ℕ) × (decode (raw_bytes s k) ≡ half p))
reading s k e g q = go (reads s k e q ((utf8_contract (utf8_from ready s) s refl).1 ((is_utf8_is s).0 g)))
  where
    go : Reads (raw_bytes s k) → ((cs : List ℕ) × WritesAll cs (raw_bytes s k)) ⊎ ((p : ℕ) × (decode (raw_bytes s k) ≡ half p))
    go (chars cs w) = inl (cs, w)
    go (broken p f) = inr (p, f)

-- ---- Half a pair is told at its backslash.
HalfOf : List ℕ → Decoded → Type 0
HalfOf r (whole t) = Unit {0}
HalfOf r (half p) = HalfAt r p

one_on : (b : ℕ) (s w : List ℕ) (d : Decoded) → HalfOf s d → HalfOf (b ∷ s) (join w d)
unfolding HalfOf join byte
one_on b s w (whole t) h = tt
one_on b s w (half p) h = record { backslash = h.backslash; escape = h.escape }

at_first : (b : ℕ) (s : List ℕ) → ((n : ℕ) → HalfOf s (decode_after n s)) → HalfOf (b ∷ s) (decode (b ∷ s))
unfolding HalfOf byte
at_first b s f = both (eqb b 0x5C)
    (λ q. go (escape_of (b ∷ s)) refl (eqb-true _ _ q))
    (λ q. subst (HalfOf (b ∷ s)) (sym (decode-plain b s (eqb-false _ _ q))) (one_on b s (b ∷ []) (decode s) (f 0)))
  where
    go : (x : Option Escaped) → escape_of (b ∷ s) ≡ x → b ≡ 0x5C → HalfOf (b ∷ s) (decode (b ∷ s))
    go (Some t) e g = subst (HalfOf (b ∷ s)) (sym (decode-char b s g e)) (one_on b s (utf8 t.code) (decode_after t.len s) (f t.len))
    go None e g = subst (HalfOf (b ∷ s)) (sym (decode-half b s g e)) (record { backslash = g; escape = e })

first-half : (n : ℕ) (r : List ℕ) → HalfOf r (decode_after n r)
unfolding HalfOf decode_after
first-half n [] = tt
first-half (suc n) (b ∷ s) = one_on b s [] (decode_after n s) (first-half n s)
first-half zero (b ∷ s) = at_first b s (λ n. first-half n s)

pub told_at : (r : List ℕ) (p : ℕ) → decode r ≡ half p → HalfAt r p
unfolding HalfOf
told_at r p e = subst (HalfOf r) e (first-half 0 r)

pub told-inside : (r : List ℕ) (p : ℕ) → decode r ≡ half p → p < length r
told-inside r p e = inside= r p 0x5C (told_at r p e).backslash (omega arith)

-- ---- the answers

module _ (r : List ℕ) where
  pub written-whole : {t : List ℕ} → decode r ≡ whole t → written r ≡ t
  unfolding written bytes_of
  written-whole e = ap bytes_of e

  pub written-half : {p : ℕ} → decode r ≡ half p → written r ≡ []
  unfolding written bytes_of
  written-half e = ap bytes_of e

  pub without-half : half_of (decode r) ≡ None → decode r ≡ whole (written r)
  unfolding written
  without-half e = no-half (decode r) e

  pub with-half : {p : ℕ} → half_of (decode r) ≡ Some p → decode r ≡ half p
  with-half e = some-half (decode r) e

-- A string is a name exactly if it is decoded to its bytes.
this-true : (name : List ℕ) (d : Decoded) → is_this name d ≡ true → d ≡ whole name
unfolding is_this
this-true name (whole t) e = ap whole (eq_bytes-true t name e)
this-true name (half p) e = absurd (false≢true e)

this-whole : (name : List ℕ) → is_this name (whole name) ≡ true
unfolding is_this
this-whole name = eq_bytes-refl name

pub this-name : (name : List ℕ) (d : Decoded) → (is_this name d ≡ true) ↔ (d ≡ whole name)
this-name name d = (this-true name d, λ e. ap (is_this name) e ∙ this-whole name)

-- Two are alike exactly if both are decoded to the same bytes.
alike-true : (d e : Decoded) → alike d e ≡ true → (t : List ℕ) × (d ≡ whole t) × (e ≡ whole t)
unfolding alike
alike-true (whole t) e q = (t, refl, this-true t e q)
alike-true (half p) e q = absurd (false≢true q)

alike_same : (t : List ℕ) → alike (whole t) (whole t) ≡ true
unfolding alike
alike_same t = this-whole t

pub both-alike : (d e : Decoded) → (alike d e ≡ true) ↔ ((t : List ℕ) × (d ≡ whole t) × (e ≡ whole t))
both-alike d e = (alike-true d e, λ x. ap (alike d) x.2 ∙ ap (λ (y : Decoded). alike y (whole x.0)) x.1 ∙ alike_same x.0)

-- A buffer keeps its length. The string is at its front where it fits; else it is as it was.
module _ (t out : List ℕ) where
  module _ (h : length t ≤ length out) where
    filled_is : filled t out ≡ t ++ drop (length t) out
    unfolding filled
    filled_is = rw (le-leb (length t) (length out) h)

    pub filled-front : take (length t) (filled t out) ≡ t
    filled-front = ap (take (length t)) filled_is ∙ take_at t (drop (length t) out) (length t) refl

    pub filled-slice : (n : ℕ) → n ≡ length t → slice (filled t out) 0 n ≡ t
    filled-slice n e = let z : n - 0 ≡ length t = omega arith in ap (λ (k : ℕ). take k (filled t out)) z ∙ filled-front

    fits-length : length (filled t out) ≡ length out
    fits-length = ap length filled_is ∙ (let a = length-append t (drop (length t) out) in let b = length-drop (length t) out in omega arith)

  pub filled-over : length out < length t → filled t out ≡ out
  unfolding filled
  filled-over h = rw (lt-leb (length t) (length out) h)

  pub filled-length : length (filled t out) ≡ length out
  filled-length = split (length t) (length out) fits-length (λ h. ap length (filled-over h))

-- What `decode` answers, by its variant.
pub record DecodedWhole (raw before after : List ℕ) (n : ℕ) : Type 0 where
  pub is : decode raw ≡ whole (written raw)
  pub size : n ≡ length (written raw)
  pub buffer : after ≡ filled (written raw) before

pub record DecodedHalf (raw before after : List ℕ) (p : ℕ) : Type 0 where
  pub is : decode raw ≡ half p
  pub buffer : after ≡ before

decoding-whole : (d : Decoded) (n : ℕ) → Ok n ≡ decoding_of d → (d ≡ whole (bytes_of d)) × (n ≡ length (bytes_of d))
unfolding decoding_of bytes_of
decoding-whole (whole t) n e = (refl, cc)
decoding-whole (half p) n e = absurd (let z : ◌≡◌ {A = ℕ} 0 1 = cc in omega arith)

decoding-half : (d : Decoded) (p : ℕ) → Err p ≡ decoding_of d → d ≡ half p
unfolding decoding_of
decoding-half (whole t) p e = absurd (let z : ◌≡◌ {A = ℕ} 0 1 = cc in omega arith)
decoding-half (half q) p e = cc

module _ {raw before after : List ℕ} {r : Result ℕ ℕ} (v : Decodes raw before after r) where
  pub decoded-whole : {n : ℕ} → r ≡ Ok n → DecodedWhole raw before after n
  unfolding written
  decoded-whole {n} q = let w = decoding-whole (decode raw) n (sym q ∙ v.answer) in record { is = w.0; size = w.1; buffer = v.buffer }

  pub decoded-half : {p : ℕ} → r ≡ Err p → DecodedHalf raw before after p
  decoded-half {p} q =
      let e = decoding-half (decode raw) p (sym q ∙ v.answer) in
      record { is = e; buffer = v.buffer ∙ ap (λ (t : List ℕ). filled t before) (written-half raw e) ∙ filled_none before }

  -- where it fits, the front of the buffer is the string
  pub decoded-front : {n : ℕ} → r ≡ Ok n → n ≤ length before → slice after 0 n ≡ written raw
  decoded-front {n} q h =
      let w = decoded-whole q in
      let e = w.size in
      ap (λ (l : List ℕ). slice l 0 n) w.buffer ∙ filled-slice (written raw) before (omega arith) n e

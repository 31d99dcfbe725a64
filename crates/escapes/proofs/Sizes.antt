-- A string has no more bytes than stand between its quotes, and fewer where one is a backslash.
use Rattle.std.specs.Prelude.{Option, None, Some}
use Prim.Native.Nat.{ℕ, zero, suc, ◌+◌, ◌-◌, ◌≤◌, ◌<◌}
use native.Mathlib.Omega.{arith}
use mathlib.Core.Path.{◌≡◌, refl, sym, ap, ◌∙◌}
use mathlib.Core.List.{List, [], ◌∷◌}
use lib.ListN.{length, length-append}
use lib.Dec.{eqb}
use borrow.Author.Tests.{eqb-true, eqb-false}
use mathlib.Core.Bool.{false, true≢false}
use Rattle.text.proofs.Bytes.{both}
use Rattle.json_text.specs.Bytes.{byte}
use Rattle.json_text.specs.Strings.{is_plain, text_step}
use Rattle.json_text.specs.declared.string.State.TheVariants as J
use Rattle.escapes.specs.declared.Escaped.{Escaped}
use Rattle.escapes.specs.Escapes.{escape_of, utf8}
use Rattle.escapes.specs.Decode.{Decoded, whole, half, join, decode_after, decode, bytes_of}
use Rattle.escapes.proofs.Escapes.{char-good}
use Rattle.escapes.proofs.Walk.{decode-plain, decode-char, decode-half}
use Rattle.escapes.proofs.Reading.{Runs, escape_go, digit_go, pass-byte, backslash_go, runs_as}

abbrev pub size : Decoded → ℕ
size d = length (bytes_of d)

size-join : (w : List ℕ) (d : Decoded) → size (join w d) ≤ length w + size d
unfolding bytes_of join
size-join w (whole t) = let e = length-append w t in omega arith
size-join w (half p) = omega arith

size-first : (b : ℕ) (s : List ℕ) → ((n : ℕ) → size (decode_after n s) ≤ length s - n) → size (decode (b ∷ s)) ≤ suc (length s)
unfolding bytes_of
size-first b s f = both (eqb b 0x5C)
    (λ q. go (escape_of (b ∷ s)) refl (eqb-true _ _ q))
    (λ q. let e = ap size (decode-plain b s (eqb-false _ _ q)) in let j = size-join (b ∷ []) (decode s) in let i = f 0 in omega arith)
  where
    go : (x : Option Escaped) → x ≡ escape_of (b ∷ s) → b ≡ 0x5C → size (decode (b ∷ s)) ≤ suc (length s)
    go (Some t) q g =
        let c = t.code in
        let n = t.len in
        let e = ap size (decode-char b s g (sym q)) in
        let j = size-join (utf8 c) (decode_after n s) in
        let i = f n in
        let w = char-good (b ∷ s) (omega arith) q refl in
        let x = w.few in
        let y = w.fits in
        omega arith
    go None q g = let e = ap size (decode-half b s g (sym q)) in omega arith

pub no_longer : (n : ℕ) (s : List ℕ) → size (decode_after n s) ≤ length s - n
unfolding decode_after bytes_of
no_longer n [] = omega arith
no_longer (suc n) (b ∷ s) = let j = size-join [] (decode_after n s) in let i = no_longer n s in omega arith
no_longer zero (b ∷ s) = let h = size-first b s (λ n. no_longer n s) in omega arith

-- ---- in what json's reader takes, no escape is cut off

two_digits : (r : List ℕ) → Runs J.Hex4 r → 2 ≤ length r
unfolding Runs text_step
two_digits [] w = absurd (let z : ◌≡◌ {A = ℕ} 0 1 = cc in omega arith)
two_digits (d ∷ []) (u, e, w) = let h = digit_go d J.Hex3 e in absurd (let q = h.0 ∙ w in let z : ◌≡◌ {A = ℕ} 0 1 = cc in omega arith)
two_digits (d ∷ b ∷ r) w = omega arith

escape-one : (s : List ℕ) → Runs J.Escape s → 0 < length s
unfolding Runs
escape-one [] w = absurd (let z : ◌≡◌ {A = ℕ} 0 1 = cc in omega arith)
escape-one (b ∷ r) w = omega arith

escape-three : (a : ℕ) (s : List ℕ) → Runs J.Escape s → byte (a ∷ s) 1 ≡ 0x75 → 3 ≤ length s
unfolding Runs byte
escape-three a [] w q = absurd (let z : ◌≡◌ {A = ℕ} 0 1 = cc in omega arith)
escape-three a (b ∷ r) (u, e, w) q = escape_go b e
    (λ _ h. let k = two_digits r (runs_as r h w) in omega arith)
    (λ n _ _. absurd (n q))

size-escape : (b : ℕ) (s : List ℕ) → b ≡ 0x5C → Runs J.Escape s → size (decode (b ∷ s)) < suc (length s)
unfolding bytes_of
size-escape b s g r = go (escape_of (b ∷ s)) refl
  where
    go : (x : Option Escaped) → x ≡ escape_of (b ∷ s) → size (decode (b ∷ s)) < suc (length s)
    go (Some t) q =
        let c = t.code in
        let n = t.len in
        let e = ap size (decode-char b s g (sym q)) in
        let j = size-join (utf8 c) (decode_after n s) in
        let i = no_longer n s in
        let w = char-good (b ∷ s) (omega arith) q refl in
        let x = w.few in
        let o = escape-one s r in
        let y = w.fewer (omega arith) (λ f. let k = escape-three b s r f in omega arith) in
        omega arith
    go None q = let e = ap size (decode-half b s g (sym q)) in omega arith

slash-after : (b : ℕ) (s : List ℕ) → b ≡ 0x5C → Runs J.Plain (b ∷ s) → Runs J.Escape s
unfolding Runs
slash-after b s g (u, e, w) = runs_as s (backslash_go b g e) w

pub fewer : (r : List ℕ) → Runs J.Plain r → is_plain r ≡ false → size (decode r) < length r
unfolding is_plain
fewer [] w e = absurd (true≢false e)
fewer (b ∷ s) w e = both (eqb b 0x5C)
    (λ q. size-escape b s (eqb-true _ _ q) (slash-after b s (eqb-true _ _ q) w))
    (λ q.
    let n = eqb-false _ _ q in
    let i = fewer s (pass-byte b n s w).2 (rw (q, is_plain) at e) in
    let d = ap size (decode-plain b s n) in
    let j = size-join (b ∷ []) (decode s) in
    omega arith)

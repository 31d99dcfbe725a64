-- What each way through the code shows of a string.
use Rattle.std.specs.Prelude.{Err, Ok, Result}
use Rattle.std.specs.Result.{result_unwrap_or}
use Prim.Native.Nat.{ℕ, suc, ◌+◌, ◌≤◌, ◌<◌, min}
use native.Mathlib.Nat.{mod-eq_of_lt}
use native.Mathlib.Omega.{arith}
use mathlib.Core.Path.{◌≡◌, refl, sym, ap, ◌∙◌, subst}
use mathlib.Core.List.{List, [], ◌∷◌}
use lib.ListN.{length}
use borrow.Author.Tests.{le-leb, lt-leb}
use Rattle.answer.specs.Answer.{Answer, refused, gives, placed}
use Rattle.json_text.specs.Strings.{string_at}
use Rattle.escapes.specs.Decode.{half, filled}
use Rattle.escapes.proofs.Buffers.{filled_none}
use Rattle.fields.specs.Values.{decoded_at, string_bytes, decoding_at, DecodesAt}
use Rattle.fields.proofs.Decoded.{decoded-whole, decoded-length, broken_at, broken-bytes, half-inside}
use Rattle.reply.specs.Reply.{Replied, says, refuses, refusal_code, places_below, fit_place}
use Rattle.reply.specs.Strings.{said_at, string_from, string_in, show_string, copied, StringTold}
use Rattle.reply.proofs.Out.{refusal, reply_as}

-- a place that there is room for is told as it is
pub short-fits : (p : ℕ) → p ≤ 8192 → fit_place p ≡ p
short-fits p h = let l : p < places_below = omega (arith, h) in mod-eq_of_lt l

code_is : (n k p : ℕ) → p ≤ 8192 → n ≡ refusal_code (placed k (fit_place p)) → n ≡ refusal_code (placed k p)
code_is n k p h e = e ∙ ap (λ (q : ℕ). refusal_code (placed k q)) (short-fits p h)

-- a refusal alters nothing
string-refused : (x : Answer (List ℕ)) (n k p : ℕ) (out buffer : List ℕ) → x ≡ refused (placed k p) → n ≡ refusal_code (placed k p) → StringTold x out buffer n out buffer
unfolding show_string copied
string-refused x n k p out buffer e c = record {
  reply = refusal (show_string x) n out (ap show_string e ∙ ap refuses (sym c));
  lent = sym (ap (λ (y : Answer (List ℕ)). copied y buffer) e);
}

string_as : {x y : Answer (List ℕ)} {out buffer : List ℕ} {r : ℕ} {out' buffer' : List ℕ} → x ≡ y → StringTold y out buffer r out' buffer' → StringTold x out buffer r out' buffer'
string_as {x} {y} {out} {buffer} {r} {out'} {buffer'} e w = subst (λ (z : Answer (List ℕ)). StringTold z out buffer r out' buffer') (sym e) w

-- ---- by the text and the place

module _ (s : List ℕ) (k : ℕ) where
  pub too_long : {n : ℕ} {out buffer : List ℕ} → 8192 < length s → n ≡ refusal_code (placed 21 (fit_place 8192)) → StringTold (string_in s k) out buffer n out buffer
  unfolding string_in
  too_long {n} {out} {buffer} h c = string-refused (string_in s k) n 21 8192 out buffer (rw (lt-leb (length s) 8192 h, string_in)) (code_is n 21 8192 (omega arith) c)

  module _ {r : Result ℕ ℕ} (h : length s ≤ 8192) (x : r ≡ string_at s k) where
    found : {z : Result ℕ ℕ} → r ≡ z → string_in s k ≡ string_from s k z
    unfolding string_in
    found {z} e = rw (le-leb (length s) 8192 h, string_in) (ap (string_from s k) (sym x ∙ e))

    pub no-string : {e n m : ℕ} {out buffer : List ℕ} → r ≡ Err e → m ≡ min k (length s) → n ≡ refusal_code (placed 22 (fit_place m)) → StringTold (string_in s k) out buffer n out buffer
    unfolding string_from
    no-string {e} {n} {m} {out} {buffer} q y c =
        string-refused (string_in s k) n 22 (min k (length s)) out buffer (found q) (code_is n 22 m (omega arith) c ∙ ap (λ (i : ℕ). refusal_code (placed 22 i)) y)

    pub a-string : {e n : ℕ} {out buffer out' buffer' : List ℕ} → r ≡ Ok e → StringTold (said_at k (decoded_at s k)) out buffer n out' buffer' → StringTold (string_in s k) out buffer n out' buffer'
    unfolding string_from
    a-string q w = string_as (found q) w

  -- ---- by what is decoded

  module _ {buffer buffer' : List ℕ} {r : Result ℕ ℕ} (w : DecodesAt s k buffer buffer' r) where
    half_at : {p i : ℕ} → r ≡ Err p → decoded_at s k ≡ half i → p ≡ suc k + i
    unfolding decoding_at
    half_at {p} {i} q e = let z : Err p ≡ Err (suc k + i) = sym q ∙ (w.answer ∙ ap (decoding_at k) e) in cc

    pub said-half : {p n : ℕ} {out : List ℕ} → r ≡ Err p → length s ≤ 8192 → n ≡ refusal_code (placed 25 (fit_place p)) → StringTold (said_at k (decoded_at s k)) out buffer n out buffer'
    unfolding said_at
    said-half {p} {n} {out} q h c =
        let b = broken_at s k w q in
        let place = half_at q b.1 in
        let inside = half-inside s k b.1 in
        let same = w.buffer ∙ (ap (λ (t : List ℕ). filled t buffer) (broken-bytes s k w q) ∙ filled_none buffer) in
        let x = ap (said_at k) b.1 ∙ ap (λ (i : ℕ). refused (placed 25 i)) (sym place) in
        let told = string-refused (said_at k (decoded_at s k)) n 25 p out buffer x (code_is n 25 p (omega (arith, place, inside)) c) in
        record { reply = told.reply; lent = same ∙ told.lent }

    pub said-whole : {n c : ℕ} {out out' : List ℕ} → r ≡ Ok n → Replied (says (n ∷ [])) out c out' → StringTold (said_at k (decoded_at s k)) out buffer c out' buffer'
    unfolding said_at show_string copied
    said-whole {n} {c} {out} {out'} q y =
        let e : said_at k (decoded_at s k) ≡ gives (string_bytes s k) = ap (said_at k) (decoded-whole s k w q) in
        string_as e (record { reply = reply_as _ _ _ _ _ (ap (λ (i : ℕ). says (i ∷ [])) (sym (decoded-length s k w q))) y; lent = w.buffer })

    -- the length alone, 0 where there is none
    pub length_or_none : result_unwrap_or r 0 ≡ length (string_bytes s k)
    length_or_none = by_answer r refl
      where
        by_answer : (a : Result ℕ ℕ) → r ≡ a → result_unwrap_or a 0 ≡ length (string_bytes s k)
        by_answer (Ok n) q = decoded-length s k w q
        by_answer (Err p) q = sym (ap length (broken-bytes s k w q))

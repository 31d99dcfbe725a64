-- Paper 02, K1: the place of a text that is "not JSON, too deep or over 8,192 bytes". What "the first byte at which no valid continuation exists" is
-- stands in crate abnf (specs/Place.antt): `FirstBad`. Places count bytes from 0.
use Rattle.std.specs.Prelude.{ℕ, suc, ◌+◌, ◌≤◌, ◌<◌, min, ◌≡◌, List, [], ◌∷◌, ◌++◌, Bool, true, false, length, take, leb, Err, Ok, Result}
use Rattle.abnf.specs.Place.{Viable, FirstBad}
use Rattle.text.specs.Utf8.{is_utf8}
use Rattle.text.specs.Utf8Place.{Utf8, utf8_place}
use Rattle.json_text.specs.Bytes.{byte}
use Rattle.json_text.specs.Value.{document_of, opens}
use Rattle.json_grammar.specs.Rfc8259 as G

-- ---- the languages

-- JSON over bytes: the limits of depth and length are no part of what makes a continuation valid
abbrev pub JsonOfAnyDepth : List ℕ → Type 0
JsonOfAnyDepth s = (d : ℕ) × G.JSON d s

-- a JSON text is UTF-8 (RFC 8259, 8.1); here nested at most 16 deep
abbrev pub JsonText : List ℕ → Type 0
JsonText s = G.JSON 16 s × Utf8 s

-- ---- what is wrong with a text, and where

-- K1: "the bracket too deep", which opens level d + 1: with d levels the text can go on up to it and not past it, with one more past it too
pub record TooDeep (d : ℕ) (s : List ℕ) (p : ℕ) : Type 0 where
  pub inside : p < length s
  pub bracket : opens (byte s p) ≡ true
  pub before : Viable (G.JSON d) (take p s)
  pub at : Viable (G.JSON d) (take (p + 1) s) → ⊥
  pub past : Viable (G.JSON (suc d)) (take (p + 1) s)

-- K1: "not JSON, too deep or over 8,192 bytes", each with its place: "the first byte at which no valid continuation exists (the length if the text ends
-- early), 8,192 if it is longer, the bracket too deep". A JSON text is UTF-8, so what cannot go on as UTF-8 is not JSON.
pub data NotJsonAt (s : List ℕ) (p : ℕ) : Type 0 where
  is_not_json : FirstBad JsonOfAnyDepth s p → NotJsonAt s p
  not-utf8 : FirstBad Utf8 s p → NotJsonAt s p
  too-deep : TooDeep 16 s p → NotJsonAt s p
  too_long : 8192 < length s → p ≡ 8192 → NotJsonAt s p

-- K1: "with the smallest of these places"
pub record LeastOf (P : ℕ → Type 0) (p : ℕ) : Type 0 where
  pub holds : P p
  pub least : (q : ℕ) → P q → p ≤ q

-- ---- the places as they are computed

-- where a scan ended or failed
abbrev pub reach_of : Result ℕ ℕ → ℕ
reach_of (Ok e) = e
reach_of (Err e) = e

-- the first byte at which a text cannot go on as JSON nested at most 16 deep, and in UTF-8; the length where there is none
unfoldable pub json_place : List ℕ → ℕ
json_place s = reach_of (document_of s)

unfoldable pub text_place : List ℕ → ℕ
text_place s = min (json_place s) (utf8_place s)

-- where the reader failed: not JSON, or too deep
unfoldable pub bad_place : Result ℕ ℕ → List ℕ
bad_place (Ok e) = []
bad_place (Err e) = e ∷ []

-- the place, unless the test holds
unfoldable pub place_unless : Bool → ℕ → List ℕ
place_unless true p = []
place_unless false p = p ∷ []

-- the places of all that is wrong with a text: not JSON nested at most 16 deep, not UTF-8, too long
unfoldable pub bad_places : List ℕ → List ℕ
bad_places s = bad_place (document_of s) ++ (place_unless (is_utf8 s) (utf8_place s) ++ place_unless (leb (length s) 8192) 8192)

-- the smallest of some numbers and n
unfoldable pub smallest : ℕ → List ℕ → ℕ
smallest n [] = n
smallest n (p ∷ ps) = min p (smallest n ps)

-- K1: "with the smallest of these places"; the text's length where nothing is wrong
unfoldable pub fault_place : List ℕ → ℕ
fault_place s = smallest (length s) (bad_places s)

-- Paper 02, K4: "decoded by RFC 8259 before any rule is applied, surrogate pairs included": the string that stands between two quotes of a JSON text, in UTF-8.
use Rattle.std.specs.Prelude.{ℕ, zero, suc, ◌≡◌, List, [], ◌∷◌, ◌++◌, Bool, true, false, cond, length, drop, eqb, leb, None, Option, Some, Err, Ok, Result}
use Rattle.json_text.specs.Bytes.{byte}
use Rattle.text.specs.Bytes.{eq_bytes}
use Rattle.escapes.specs.Escapes.{escape_of, utf8}

-- The string's bytes. Or "half a surrogate pair in such a string is 25, told at its backslash": the index of that backslash, the first such one.
pub data Decoded : Type 0 where
  whole : List ℕ → Decoded
  half : ℕ → Decoded

-- one byte earlier: what it writes stands in front, and an index is one more
unfoldable pub join : List ℕ → Decoded → Decoded
join w (whole t) = whole (w ++ t)
join w (half p) = half (suc p)

-- "All Unicode characters may be placed within the quotation marks": a byte stands for itself, but a backslash begins an escape. The first n bytes belong to an
-- escape before them; in a JSON string the end cuts none off.
unfoldable pub decode_after : ℕ → List ℕ → Decoded
decode_after n [] = whole []
decode_after (suc n) (b ∷ s) = join [] (decode_after n s)
decode_after zero (b ∷ s) = elim (eqb b 0x5C) [
  | true ↦ elim (escape_of (b ∷ s)) [ Some t ↦ join (utf8 t.code) (decode_after t.len s) | None ↦ half 0 ]
  | false ↦ join (b ∷ []) (decode_after 0 s)
]

-- what the bytes between the quotes write
abbrev pub decode : List ℕ → Decoded
decode r = decode_after 0 r

-- the string's bytes; none with half a pair
unfoldable pub bytes_of : Decoded → List ℕ
bytes_of (whole t) = t
bytes_of (half p) = []

unfoldable pub written : List ℕ → List ℕ
written r = bytes_of (decode r)

-- the first half pair
unfoldable pub half_of : Decoded → Option ℕ
half_of (whole t) = None
half_of (half p) = Some p

-- ---- what is asked of a string

-- it is these bytes; with half a pair it is none
unfoldable pub is_this : List ℕ → Decoded → Bool
is_this name (whole t) = eq_bytes t name
is_this name (half p) = false

-- both are the same
unfoldable pub alike : Decoded → Decoded → Bool
alike (whole t) d = is_this t d
alike (half p) d = false

-- ---- a string decoded into a buffer

-- the string's length, or the first half pair
unfoldable pub decoding_of : Decoded → Result ℕ ℕ
decoding_of (whole t) = Ok (length t)
decoding_of (half p) = Err p

-- a buffer after bytes were written to its front: as it was where they do not fit
unfoldable pub filled : List ℕ → List ℕ → List ℕ
filled t out = cond (leb (length t) (length out)) (t ++ drop (length t) out) out

-- what is answered, and the buffer: with half a pair it is as it was
pub record Decodes (raw before after : List ℕ) (r : Result ℕ ℕ) : Type 0 where
  pub answer : r ≡ decoding_of (decode raw)
  pub buffer : after ≡ filled (written raw) before

-- ---- where half a pair stands: at a backslash that begins an escape of one

pub record HalfAt (r : List ℕ) (p : ℕ) : Type 0 where
  pub backslash : byte r p ≡ 0x5C
  pub escape : escape_of (drop p r) ≡ None

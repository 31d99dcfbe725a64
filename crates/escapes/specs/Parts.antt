-- What only private functions' contracts cite: a character's bytes in an array, one byte of a string after another, and copies.
use Rattle.std.specs.Prelude.{ℕ, ◌+◌, ◌-◌, min, ◌≡◌, List, ◌++◌, true, false, length, drop, get_or, replicate, eqb, ltb, Option, Some, None}
use Rattle.json_text.specs.Bytes.{byte}
use Rattle.escapes.specs.declared.Escaped.{Escaped}
use Rattle.escapes.specs.declared.Step.{Step}
use Rattle.escapes.specs.declared.Step.TheVariants.{Byte, Stop, Over}
use Rattle.escapes.specs.declared.Coded.{Coded}
use Rattle.escapes.specs.Escapes.{escape_of, utf8}
use Rattle.escapes.specs.Decode.{filled}

-- a character's bytes, with zeros up to four
unfoldable pub coded_of : ℕ → Coded
coded_of c = record { n = length (utf8 c); bytes = utf8 c ++ replicate (4 - length (utf8 c)) 0 }

-- byte o of a character that is written from i up to e: more of it is due, or e is next
unfoldable pub char_step : ℕ → ℕ → ℕ → ℕ → Step
char_step c o i e = elim (ltb (o + 1) (length (utf8 c))) [
  | true ↦ Byte (get_or (utf8 c) o 0) i (o + 1)
  | false ↦ elim (ltb o (length (utf8 c))) [ true ↦ Byte (get_or (utf8 c) o 0) e 0 | false ↦ Over ]
]

-- an escape at i, in a text of so many bytes
unfoldable pub escape_step : Option Escaped → ℕ → ℕ → ℕ → Step
escape_step (Some t) i o len = char_step t.code o i (min (i + 1 + t.len) len)
escape_step None i o len = Stop

-- the next byte that s writes from i on, of whose character o are past; and where the one after it is
unfoldable pub step_at : List ℕ → ℕ → ℕ → Step
step_at s i o = elim (ltb i (length s)) [
  | true ↦ elim (eqb (byte s i) 0x5C) [ true ↦ escape_step (escape_of (drop i s)) i o (length s) | false ↦ Byte (byte s i) (i + 1) 0 ]
  | false ↦ Over
]

-- bytes were copied to the front of a buffer where they fit; r is their number
pub record Copied (t before after : List ℕ) (r : ℕ) : Type 0 where
  pub size : r ≡ length t
  pub buffer : after ≡ filled t before

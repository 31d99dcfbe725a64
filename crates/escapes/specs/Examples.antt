-- Worked examples of decoding, computed.
use Rattle.std.specs.Prelude.{◌≡◌, refl, [], ◌∷◌, map}
use Rattle.text.specs.Ascii.{ascii}
use Rattle.json_text.specs.Bytes.{byte}
use Rattle.escapes.specs.Escapes.{hex_digit, code_unit, is_high, is_low, pair_of, short_of, pair_after, unit_escape, escape_of, utf8}
use Rattle.escapes.specs.Decode.{whole, half, join, decode_after, decode}

-- RFC 8259, 7: "a string containing only the G clef character (U+1D11E) may be represented as "\uD834\uDD1E"", in either case. K4: "Two common JSON
-- libraries write `\u00b0` and `\/`". All short escapes; \u0041; the first and the last character of three bytes, of four.
examples : map (λ r. decode r) (
    ascii "\\uD834\\udd1e" ∷
    ascii "2\\u00b0\\/" ∷
    ascii "\\\"\\\\\\/\\b\\f\\n\\r\\t" ∷
    ascii "a\\u0041b" ∷
    ascii "\\u0800\\uffff" ∷
    ascii "\\ud800\\udc00\\uDBFF\\uDFFF" ∷
    []) ≡
    whole (0xF0 ∷ 0x9D ∷ 0x84 ∷ 0x9E ∷ []) ∷
    whole (0x32 ∷ 0xC2 ∷ 0xB0 ∷ 0x2F ∷ []) ∷
    whole (0x22 ∷ 0x5C ∷ 0x2F ∷ 0x08 ∷ 0x0C ∷ 0x0A ∷ 0x0D ∷ 0x09 ∷ []) ∷
    whole (ascii "aAb") ∷
    whole (0xE0 ∷ 0xA0 ∷ 0x80 ∷ 0xEF ∷ 0xBF ∷ 0xBF ∷ []) ∷
    whole (0xF0 ∷ 0x90 ∷ 0x80 ∷ 0x80 ∷ 0xF4 ∷ 0x8F ∷ 0xBF ∷ 0xBF ∷ []) ∷
    []
unfolding hex_digit code_unit is_high is_low pair_of short_of pair_after unit_escape escape_of utf8 byte join decode_after
examples = refl

-- Halves: a high one alone, a low one alone, two high ones, a high one before another escape, a low one before a high one; of two the first. An escaped
-- backslash before "ud800" is none.
halves : map (λ r. decode r) (
    ascii "ab\\ud800" ∷
    ascii "\\t\\uDC00" ∷
    ascii "\\uD834\\uD834\\uDD1E" ∷
    ascii "\\uD834\\n" ∷
    ascii "\\uDD1E\\uD834" ∷
    ascii "\\ud834\\udd1ea\\uDC00\\ud800" ∷
    ascii "\\\\ud800" ∷
    []) ≡ half 2 ∷ half 2 ∷ half 0 ∷ half 0 ∷ half 0 ∷ half 13 ∷ whole (ascii "\\ud800") ∷ []
unfolding hex_digit code_unit is_high is_low pair_of short_of pair_after unit_escape escape_of utf8 byte join decode_after
halves = refl

-- What the escapes of JSON's strings write (RFC 8259, 7), and a character's bytes (RFC 3629, 3).
use Rattle.std.specs.Prelude.{ℕ, ◌+◌, ◌*◌, ◌-◌, ◌/◌, ◌%◌, List, [], ◌∷◌, Bool, true, false, ◌&&◌, cond, eqb, ltb, Option, Some, None}
use Rattle.abnf.specs.Accepts.{in_range}
use Rattle.json_text.specs.Bytes.{byte}
use Rattle.escapes.specs.declared.Escaped.{Escaped}

-- "The hexadecimal letters A through F can be uppercase or lowercase": a digit's value. No other byte stands there in JSON
unfoldable pub hex_digit : ℕ → ℕ
hex_digit b = cond (in_range 0x30 0x39 b) (b - 0x30) (cond (in_range 0x41 0x46 b) (b - 0x37) (cond (in_range 0x61 0x66 b) (b - 0x57) 0))

-- "four hexadecimal digits that encode the character's code point": those from i on
unfoldable pub code_unit : List ℕ → ℕ → ℕ
code_unit s i = 4096 * hex_digit (byte s i) + (256 * hex_digit (byte s (i + 1)) + (16 * hex_digit (byte s (i + 2)) + hex_digit (byte s (i + 3))))

-- "To escape an extended character that is not in the Basic Multilingual Plane, the character is represented as a 12-character sequence, encoding the
-- UTF-16 surrogate pair": a high surrogate, a low one, and the character of the two
unfoldable pub is_high : ℕ → Bool
is_high u = in_range 0xD800 0xDBFF u

unfoldable pub is_low : ℕ → Bool
is_low u = in_range 0xDC00 0xDFFF u

unfoldable pub pair_of : ℕ → ℕ → ℕ
pair_of h l = 0x10000 + (1024 * (h - 0xD800) + (l - 0xDC00))

-- "there are two-character sequence escape representations of some popular characters": by the byte after the backslash, b f n r t " / \ and in JSON no other
unfoldable pub short_of : ℕ → ℕ
short_of b =
    cond (eqb b 0x62) 0x08
    (cond (eqb b 0x66) 0x0C
    (cond (eqb b 0x6E) 0x0A
    (cond (eqb b 0x72) 0x0D
    (cond (eqb b 0x74) 0x09
    (cond (eqb b 0x22) 0x22
    (cond (eqb b 0x2F) 0x2F 0x5C))))))

-- What the backslash writes that the bytes begin with: a character, with the number of bytes after the backslash that write it. Or it is half a surrogate
-- pair: a high surrogate that is not directly followed by an escaped low one, or a low one alone.

-- the character c, written by n bytes
abbrev pub escaped_char : ℕ → ℕ → Option Escaped
escaped_char c n = Some (record { code = c; len = n })

-- after \u and a high surrogate h: \u and a low one
unfoldable pub pair_after : List ℕ → ℕ → Option Escaped
pair_after s h = elim (eqb (byte s 6) 0x5C && (eqb (byte s 7) 0x75 && is_low (code_unit s 8))) [ true ↦ escaped_char (pair_of h (code_unit s 8)) 11 | false ↦ None ]

-- \u with the code unit u
unfoldable pub unit_escape : List ℕ → ℕ → Option Escaped
unit_escape s u = elim (is_high u) [ true ↦ pair_after s u | false ↦ elim (is_low u) [ true ↦ None | false ↦ escaped_char u 5 ] ]

unfoldable pub escape_of : List ℕ → Option Escaped
escape_of s = elim (eqb (byte s 1) 0x75) [ true ↦ unit_escape s (code_unit s 2) | false ↦ escaped_char (short_of (byte s 1)) 1 ]

-- a character's bytes: RFC 3629's table, a row each
unfoldable pub utf8 : ℕ → List ℕ
utf8 c = elim (ltb c 0x80) [
  | true ↦ c ∷ []
  | false ↦ elim (ltb c 0x800) [
    | true ↦ (0xC0 + c / 64) ∷ (0x80 + c % 64) ∷ []
    | false ↦ elim (ltb c 0x10000) [
      | true ↦ (0xE0 + c / 4096) ∷ (0x80 + c / 64 % 64) ∷ (0x80 + c % 64) ∷ []
      | false ↦ (0xF0 + c / 262144) ∷ (0x80 + c / 4096 % 64) ∷ (0x80 + c / 64 % 64) ∷ (0x80 + c % 64) ∷ []
    ]
  ]
]

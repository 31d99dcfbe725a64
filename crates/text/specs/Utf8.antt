-- UTF-8, and rule 10.
use Rattle.std.specs.Prelude.{ℕ, List, [], ◌∷◌, Bool, ◌&&◌, not, take}
use Rattle.abnf.specs.Accepts.{accepts}
use Rattle.abnf.specs.Abnf.{Abnf, ◌–◌, ◌·◌, ◌//◌, ∗◌, x}
use Rattle.text.specs.Bytes.{eq_bytes}

-- RFC 3629, section 4, rule by rule:
-- UTF8-octets = *( UTF8-char )
-- UTF8-char   = UTF8-1 / UTF8-2 / UTF8-3 / UTF8-4
-- UTF8-1      = %x00-7F
-- UTF8-2      = %xC2-DF UTF8-tail
-- UTF8-3      = %xE0 %xA0-BF UTF8-tail / %xE1-EC 2( UTF8-tail ) /
--               %xED %x80-9F UTF8-tail / %xEE-EF 2( UTF8-tail )
-- UTF8-4      = %xF0 %x90-BF 2( UTF8-tail ) / %xF1-F3 3( UTF8-tail ) /
--               %xF4 %x80-8F 2( UTF8-tail )
-- UTF8-tail   = %x80-BF
abbrev pub UTF8-tail : Abnf ⊥
UTF8-tail = 0x80 – 0xBF

abbrev pub UTF8-1 : Abnf ⊥
UTF8-1 = 0x00 – 0x7F

abbrev pub UTF8-2 : Abnf ⊥
UTF8-2 = 0xC2 – 0xDF · UTF8-tail

abbrev pub UTF8-3 : Abnf ⊥
UTF8-3 = x 0xE0 · 0xA0 – 0xBF · UTF8-tail // 0xE1 – 0xEC · UTF8-tail · UTF8-tail // x 0xED · 0x80 – 0x9F · UTF8-tail // 0xEE – 0xEF · UTF8-tail · UTF8-tail

abbrev pub UTF8-4 : Abnf ⊥
UTF8-4 = x 0xF0 · 0x90 – 0xBF · UTF8-tail · UTF8-tail // 0xF1 – 0xF3 · UTF8-tail · UTF8-tail · UTF8-tail // x 0xF4 · 0x80 – 0x8F · UTF8-tail · UTF8-tail

abbrev pub UTF8-char : Abnf ⊥
UTF8-char = UTF8-1 // UTF8-2 // UTF8-3 // UTF8-4

abbrev pub UTF8-octets : Abnf ⊥
UTF8-octets = ∗ UTF8-char

-- whether a byte string is a word of that grammar
unfoldable pub is_utf8 : List ℕ → Bool
is_utf8 s = accepts UTF8-octets s

-- the byte order mark
unfoldable pub starts_bom : List ℕ → Bool
starts_bom s = eq_bytes (take 3 s) (0xEF ∷ 0xBB ∷ 0xBF ∷ [])

-- Paper 01, refusal 10: "payload not UTF-8, or begins EF BB BF". True where a payload is not refused so.
unfoldable pub is_text : List ℕ → Bool
is_text s = is_utf8 s && not (starts_bom s)

-- The ways in which a JSON string writes a character (RFC 8259, 7), by the rules of its grammar.
use Rattle.std.specs.Prelude.{ℕ, ◌+◌, ◌*◌, ◌≤◌, ◌<◌, ◌≡◌, List, [], ◌∷◌, ◌++◌}
use Rattle.text.specs.Scalars.{Scalar, Encodes}
use Rattle.escapes.specs.Escapes.{utf8}

-- HEXDIG in either case, and its value
pub data Hex (b v : ℕ) : Type 0 where
  decimal : b ≡ 0x30 + v → v < 10 → Hex b v
  upper : b ≡ 0x37 + v → 10 ≤ v → v < 16 → Hex b v
  lower : b ≡ 0x57 + v → 10 ≤ v → v < 16 → Hex b v

-- 4HEXDIG
pub data Hex4 (u : ℕ) : List ℕ → Type 0 where
  digits : (a b c d x y z w : ℕ) → Hex a x → Hex b y → Hex c z → Hex d w → 4096 * x + (256 * y + (16 * z + w)) ≡ u → Hex4 u (a ∷ b ∷ c ∷ d ∷ [])

-- %x22 / %x5C / %x2F / %x62 / %x66 / %x6E / %x72 / %x74, and the character of each
pub data Short : ℕ → ℕ → Type 0 where
  quotation-mark : Short 0x22 0x22
  reverse-solidus : Short 0x5C 0x5C
  solidus : Short 0x2F 0x2F
  backspace : Short 0x62 0x08
  form_feed : Short 0x66 0x0C
  line_feed : Short 0x6E 0x0A
  carriage_return : Short 0x72 0x0D
  tab : Short 0x74 0x09

-- char = unescaped / escape ( .. ): these bytes for the character c
pub data Writes (c : ℕ) : List ℕ → Type 0 where
  -- unescaped = %x20-21 / %x23-5B / %x5D-10FFFF
  unescaped : {w : List ℕ} → Encodes c w → 0x20 ≤ c → (c ≡ 0x22 → ⊥) → (c ≡ 0x5C → ⊥) → Writes c w
  short : {b : ℕ} → Short b c → Writes c (0x5C ∷ b ∷ [])
  -- %x75 4HEXDIG
  unit : {d : List ℕ} → Hex4 c d → Writes c (0x5C ∷ 0x75 ∷ d)
  -- the same twice, for a surrogate pair
  pair : {d e : List ℕ} (h l : ℕ) → h < 1024 → l < 1024 → Hex4 (0xD800 + h) d → Hex4 (0xDC00 + l) e → 0x10000 + (1024 * h + l) ≡ c → Writes c (0x5C ∷ 0x75 ∷ (d ++ (0x5C ∷ 0x75 ∷ e)))

-- *char: characters, and bytes between two quotes that write them
pub data WritesAll : List ℕ → List ℕ → Type 0 where
  none : WritesAll [] []
  more : {c : ℕ} {cs w t : List ℕ} → Scalar c → Writes c w → WritesAll cs t → WritesAll (c ∷ cs) (w ++ t)

-- characters in UTF-8
unfoldable pub in_utf8 : List ℕ → List ℕ
in_utf8 [] = []
in_utf8 (c ∷ cs) = utf8 c ++ in_utf8 cs

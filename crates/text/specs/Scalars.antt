-- What a character's bytes encode.
use Rattle.std.specs.Prelude.{ℕ, ◌+◌, ◌*◌, ◌≤◌, ◌<◌, ◌≡◌, List, [], ◌∷◌}

-- RFC 3629, section 3: the character numbers U+0000 to U+10FFFF but the surrogates U+D800 to U+DFFF
pub record Scalar (c : ℕ) : Type 0 where
  pub small : c ≤ 0x10FFFF
  pub plain : 0xD800 ≤ c → c ≤ 0xDFFF → ⊥

-- Its table, a row each: the numbers that take so many bytes, and the bytes with their bits (x, y, z, w).
pub data Encodes (c : ℕ) : List ℕ → Type 0 where
  -- 0000 0000-0000 007F: 0xxxxxxx
  one : (a : ℕ) → a ≡ c → c ≤ 0x7F → Encodes c (a ∷ [])
  -- 0000 0080-0000 07FF: 110xxxxx 10yyyyyy
  two : (a b x y : ℕ) → a ≡ 0xC0 + x → x < 32 → b ≡ 0x80 + y → y < 64 → c ≡ 64 * x + y → 0x80 ≤ c → Encodes c (a ∷ b ∷ [])
  -- 0000 0800-0000 FFFF: 1110xxxx 10yyyyyy 10zzzzzz
  three : (a b d x y z : ℕ) → a ≡ 0xE0 + x → x < 16 → b ≡ 0x80 + y → y < 64 → d ≡ 0x80 + z → z < 64 → c ≡ 4096 * x + (64 * y + z) → 0x800 ≤ c → Encodes c (a ∷ b ∷ d ∷ [])
  -- 0001 0000-0010 FFFF: 11110xxx 10yyyyyy 10zzzzzz 10wwwwww
  four : (a b d e x y z w : ℕ) → a ≡ 0xF0 + x → x < 8 → b ≡ 0x80 + y → y < 64 → d ≡ 0x80 + z → z < 64 → e ≡ 0x80 + w → w < 64 → c ≡ 262144 * x + (4096 * y + (64 * z + w)) → 0x10000 ≤ c → Encodes c (a ∷ b ∷ d ∷ e ∷ [])

-- the bytes of a character: they encode one of those numbers
abbrev pub Encoding : List ℕ → Type 0
Encoding w = (c : ℕ) × Encodes c w × Scalar c

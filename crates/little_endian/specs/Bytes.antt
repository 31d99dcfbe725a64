-- Numbers in bytes. Paper 01, "The trace file": "Numbers are little-endian."
use Rattle.std.specs.Prelude.{ℕ, zero, suc, ◌+◌, ◌*◌, ◌/◌, ◌%◌, ◌≤◌, ◌<◌, ◌≡◌, List, [], ◌∷◌, ◌++◌, length, get_or, take, drop}

-- every element is a byte
abbrev pub Bytes : List ℕ → Type 0
Bytes s = (i : ℕ) → get_or s i 0 < 256

-- the w bytes of a number, the lowest first
unfoldable pub le_bytes : ℕ → ℕ → List ℕ
le_bytes zero v = []
le_bytes (suc w) v = v % 256 ∷ le_bytes w (v / 256)

-- the number of some bytes, the lowest first
unfoldable pub le : List ℕ → ℕ
le [] = 0
le (b ∷ s) = b + 256 * le s

-- the number in the w bytes of f from offset `at` on, of those that are there
unfoldable pub num : ℕ → ℕ → List ℕ → ℕ
num w at f = le (take w (drop at f))

abbrev pub u16 : List ℕ → ℕ → ℕ
u16 f at = num 2 at f

abbrev pub u32 : List ℕ → ℕ → ℕ
u32 f at = num 4 at f

abbrev pub u64 : List ℕ → ℕ → ℕ
u64 f at = num 8 at f

-- s in the place of as many elements of d, from `at` on
unfoldable pub put : List ℕ → ℕ → List ℕ → List ℕ
put d at s = take at d ++ (s ++ drop (at + length s) d)

-- the w bytes of v written from `at` on; where they do not all fit, nothing is
pub record Stored (d : List ℕ) (at w v : ℕ) (d' : List ℕ) : Type 0 where
  pub written : at + w ≤ length d → d' ≡ put d at (le_bytes w v)
  pub kept : length d < at + w → d' ≡ d

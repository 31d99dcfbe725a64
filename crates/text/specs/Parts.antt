-- What private functions compute: tests of several bytes at once, and the UTF-8 check.
use Rattle.std.specs.Prelude.{ℕ, ◌≤◌, ◌<◌, ◌≡◌, List, [], ◌∷◌, Bool, true, false, eqb, length, drop, get_or, Option, Some, None}
use Rattle.text.specs.Ids.{id_byte}
use Rattle.text.specs.Utf8Place.{Due, due, ready, never, low, high, first, next}

-- a test that decides a fact
pub record Decides (P : Type 0) (r : Bool) : Type 0 where
  pub yes : r ≡ true → P
  pub no : r ≡ false → P → ⊥

-- ---- tests of many bytes

-- P holds at each of n places from `at` up to `end`
pub record Each (P : ℕ → Type 0) (n at end : ℕ) : Type 0 where
  pub from : at ≤ end
  pub to : end ≤ n
  pub all : (k : ℕ) → at ≤ k → k < end → P k

-- the bytes there may stand in an ID; are ASCII
abbrev pub IdBytes : List ℕ → ℕ → ℕ → Type 0
IdBytes s at end = Each (λ k. id_byte (get_or s k 0) ≡ true) (length s) at end

abbrev pub Ascii : List ℕ → ℕ → ℕ → Type 0
Ascii s at end = Each (λ k. get_or s k 0 < 0x80) (length s) at end

-- and the next one is not ASCII
pub record AsciiRun (s : List ℕ) (at end : ℕ) : Type 0 where
  pub run : Ascii s at end
  pub stop : end < length s → 0x80 ≤ get_or s end 0

-- ---- a byte at a time

-- whether the bytes go on in UTF-8 to their end
unfoldable pub utf8_from : Due → List ℕ → Bool
utf8_from d [] = eqb d.count 0
utf8_from d (b ∷ s) = utf8_from (next d b) s

-- how many bytes follow a first byte in its character; none where no character begins with it
abbrev pub Following : ℕ → Option ℕ → Type 0
Following b (Some n) = (n ≤ 3) × (first b ≡ due n (low b) (high b))
Following b None = first b ≡ never

-- ---- a character at a time

-- a byte from lo to hi stands at i
pub record ByteIn (s : List ℕ) (i lo hi : ℕ) : Type 0 where
  pub inside : i < length s
  pub least : lo ≤ get_or s i 0
  pub most : get_or s i 0 ≤ hi

-- b stands at i and is not ASCII
pub record Begins (s : List ℕ) (i b : ℕ) : Type 0 where
  pub inside : i < length s
  pub byte : b ≡ get_or s i 0
  pub several : 0x80 ≤ b

-- what follows `end` decides what follows `at`
pub record Passes (s : List ℕ) (at end : ℕ) : Type 0 where
  pub past : at < end
  pub to : end ≤ length s
  pub same : utf8_from ready (drop at s) ≡ utf8_from ready (drop end s)

-- what reading a character answers: where it ends, or that no UTF-8 begins so
abbrev pub Reads : List ℕ → ℕ → Option ℕ → Type 0
Reads s i (Some e) = Passes s i e
Reads s i None = utf8_from ready (drop i s) ≡ false

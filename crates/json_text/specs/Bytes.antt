-- Bytes of a text by index, and the form of every scan.
use Rattle.std.specs.Prelude.{ℕ, suc, ◌+◌, ◌-◌, ◌<◌, ◌≤◌, ◌≡◌, List, [], ◌∷◌, Bool, true, false, ◌||◌, get_or, drop, eqb, Err, Ok, Result}

-- the byte at an index; 256, which is no byte, at and past the end
unfoldable pub byte : List ℕ → ℕ → ℕ
byte s at = get_or s at 256

-- how many elements at the front of the list pass the test
unfoldable pub run : (ℕ → Bool) → List ℕ → ℕ
run p [] = 0
run p (b ∷ bs) = elim (p b) [ true ↦ suc (run p bs) | false ↦ 0 ]

-- past the bytes from `at` on that pass the test
unfoldable pub past : (ℕ → Bool) → List ℕ → ℕ → ℕ
past p s at = at + run p (drop at s)

-- white space (RFC 8259, 2): space, line feed, carriage return, tab
unfoldable pub is_ws : ℕ → Bool
is_ws b = eqb b 32 || (eqb b 10 || (eqb b 13 || eqb b 9))

-- the first index at or after `at` that holds no white space
unfoldable pub ws : List ℕ → ℕ → ℕ
ws s at = past is_ws s at

-- A scan answers `Ok`, where what it read ends, or `Err`, the first place at which nothing that stands there can be right:
-- the text's length where it ends early.

-- the bytes of a word, one after another
unfoldable pub word : List ℕ → List ℕ → ℕ → Result ℕ ℕ
word [] s at = Ok at
word (w ∷ ws) s at = elim (eqb (byte s at) w) [ true ↦ word ws s (at + 1) | false ↦ Err at ]

-- go on where a scan ended
unfoldable pub and_then : Result ℕ ℕ → (ℕ → Result ℕ ℕ) → Result ℕ ℕ
and_then (Ok e) k = k e
and_then (Err e) k = Err e

-- ---- what the functions ensure: the answer is the definition's, and where it lies. `e - hi ≤ lo - hi`: not past hi, unless lo is.

-- a place reached from lo
pub record Skipped (want lo hi r : ℕ) : Type 0 where
  pub is : r ≡ want
  pub from : lo ≤ r
  pub to : r - hi ≤ lo - hi

-- a scan from lo: past it where it went well
abbrev pub EndsWithin : ℕ → ℕ → Result ℕ ℕ → Type 0
EndsWithin lo hi (Ok e) = (lo < e) × (e ≤ hi)
EndsWithin lo hi (Err e) = (lo ≤ e) × (e - hi ≤ lo - hi)

pub record Scanned (want : Result ℕ ℕ) (lo hi : ℕ) (r : Result ℕ ℕ) : Type 0 where
  pub is : r ≡ want
  pub lies : EndsWithin lo hi r

-- a scan that may read nothing
abbrev pub Between : ℕ → ℕ → Result ℕ ℕ → Type 0
Between lo hi (Ok e) = (lo ≤ e) × (e - hi ≤ lo - hi)
Between lo hi (Err e) = (lo ≤ e) × (e - hi ≤ lo - hi)

pub record Moved (want : Result ℕ ℕ) (lo hi : ℕ) (r : Result ℕ ℕ) : Type 0 where
  pub is : r ≡ want
  pub lies : Between lo hi r

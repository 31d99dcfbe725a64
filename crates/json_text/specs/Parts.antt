-- What only private functions' contracts cite: the table of ends as it fills, an entry of it, and runs of bytes in strings.
use Rattle.std.specs.Prelude.{ℕ, suc, ◌≤◌, ◌<◌, ◌≡◌, List, ◌⊎◌, Bool, false, not, ◌&&◌, length, get_or, drop, eqb, Err, Ok, Result, Option, Some}
use Rattle.abnf.specs.Accepts.{in_range}
use Rattle.json_text.specs.Bytes.{byte, Scanned}
use Rattle.json_text.specs.Strings.{plain_step, text}
use Rattle.json_text.specs.Value.{value_at}
use Rattle.json_text.specs.Ends.{Ends}
use Rattle.json_text.specs.declared.string.State.TheVariants.{Plain, Escape}
use Rattle.json_text.specs.declared.string.Move.TheVariants.{Go}

-- a byte that begins no string, array or object
pub record Bare (b : ℕ) : Type 0 where
  pub no-array : b ≡ 91 → ⊥
  pub no-object : b ≡ 123 → ⊥
  pub no-string : b ≡ 34 → ⊥

-- a scan's answer is the value at each depth
pub record Leaf (s : List ℕ) (at : ℕ) (r : Result ℕ ℕ) : Type 0 where
  pub at-depth : (d : ℕ) → Scanned (value_at d s at) at (length s) r

-- a scan at most 16 deep leaves the table right
pub record Kept (depth : ℕ) (s before after : List ℕ) : Type 0 where
  pub keeps : depth ≤ 16 → Ends s before → Ends s after

-- at most the entry at `at` is another, and then it is where the scan ended
pub record Noted (at : ℕ) (r : Result ℕ ℕ) (before after : List ℕ) : Type 0 where
  pub at_most : (k : ℕ) → (get_or after k 0 ≡ get_or before k 0) ⊎ ((k ≡ at) × (r ≡ Ok (get_or after k 0)))

-- the entries of the first n places tell nothing
pub record Cleared (n : ℕ) (ends : List ℕ) : Type 0 where
  pub low : (k : ℕ) → k < n → get_or ends k 0 ≤ 1

-- what is told is the entry at k, and lies in a text of length n, more than one past k
pub record Told (ends : List ℕ) (k n : ℕ) (r : Option ℕ) : Type 0 where
  pub entry : (e : ℕ) → r ≡ Some e → (e ≡ get_or ends k 0) × (suc k < e) × (e ≤ n)

-- ---- strings

-- a byte stands for itself
unfoldable pub stands_for_itself : ℕ → Bool
stands_for_itself b = in_range 32 255 b && (not (eqb b 34) && not (eqb b 92))

-- the first n bytes stand for themselves
pub record EachPlain (block : List ℕ) (n : ℕ) : Type 0 where
  pub each : (k : ℕ) → k < n → plain_step (get_or block k 0) ≡ Go Plain

-- the bytes from `at` to i stand for themselves: no backslash is among them, and reading on from i is reading from `at`
pub record Run (s : List ℕ) (at i : ℕ) : Type 0 where
  pub from : at ≤ i
  pub to : i ≤ length s
  pub plain : (k : ℕ) → at ≤ k → k < i → byte s k ≡ 92 → ⊥
  pub same : text Plain (drop i s) i ≡ text Plain (drop at s) at

-- likewise, and at i no byte stands for itself
pub record RunOver (s : List ℕ) (at i : ℕ) : Type 0 where
  pub run : Run s at i
  pub over : stands_for_itself (byte s i) ≡ false

-- where an escape ends whose backslash stands before `at`
abbrev pub EscapeEnds : List ℕ → ℕ → Result ℕ ℕ → Type 0
EscapeEnds s at (Ok e) = (at < e) × (e ≤ length s) × (text Plain (drop e s) e ≡ text Escape (drop at s) at)
EscapeEnds s at (Err e) = (at ≤ e) × (e ≤ length s) × (Err e ≡ text Escape (drop at s) at)

pub record Escaped (s : List ℕ) (at : ℕ) (r : Result ℕ ℕ) : Type 0 where
  pub ends : EscapeEnds s at r

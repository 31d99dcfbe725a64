-- Text that is put into a lent buffer, piece after piece.
use Rattle.std.specs.Prelude.{ℕ, ◌+◌, ◌≤◌, ◌<◌, ◌≡◌, List, ◌++◌, cond, leb, length, take, drop, None, Option, Some}

-- the buffer d with the text t from a place on, where there is room for it; else d as it is
unfoldable pub written : List ℕ → ℕ → List ℕ → List ℕ
written d at t = cond (leb (at + length t) (length d)) (take at d ++ (t ++ drop (at + length t) d)) d

-- where the next text goes: behind this one, and past the end where there was no room, so that nothing has room from there on
unfoldable pub behind : List ℕ → ℕ → List ℕ → ℕ
behind d at t = cond (leb (at + length t) (length d)) (at + length t) (length d + 1)

-- what a call that puts the text t promises of its answer r and of the buffer d' afterwards
pub record Puts (d : List ℕ) (at : ℕ) (t : List ℕ) (r : ℕ) (d' : List ℕ) : Type 0 where
  pub place : r ≡ behind d at t
  pub memory : d' ≡ written d at t

-- input that was taken leaves a byte of the buffer over
abbrev pub FitsBuffer : Option ℕ → List ℕ → Type 0
FitsBuffer (Some n) d = n < length d
FitsBuffer None d = Unit {0}

-- a text stands in front in a buffer, up to a place
pub record Stands (d : List ℕ) (at : ℕ) (s : List ℕ) : Type 0 where
  pub place : at ≡ length s
  pub text : take at d ≡ s

-- what calls that put pieces one after the other come to: behind any text s, if there is room for both, now stands t too
pub record Adds (d : List ℕ) (at : ℕ) (t : List ℕ) (r : ℕ) (d' : List ℕ) : Type 0 where
  pub size : length d' ≡ length d
  pub adds : (s : List ℕ) → Stands d at s → length (s ++ t) ≤ length d → Stands d' r (s ++ t)

-- A place in a byte string, as answers show a part of one.
use Rattle.std.specs.Prelude.{ℕ, ◌≤◌, List}
use Rattle.text.specs.Bytes.{slice}
use Rattle.text.specs.declared.Place.{Place}

-- the bytes at a place
abbrev pub bytes_at : List ℕ → Place → List ℕ
bytes_at s p = slice s p.start p.end

-- a place in a byte string of that length
pub record Within (n : ℕ) (p : Place) : Type 0 where
  pub ordered : p.start ≤ p.end
  pub inside : p.end ≤ n

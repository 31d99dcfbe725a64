-- For the contract of a colour's part.
use Rattle.std.specs.Prelude.{ℕ, ◌≡◌, List, ◌∷◌, Bool, false, Option, None, Some}
use Rattle.entries.specs.Parts.{from}
use Rattle.payload.specs.Colors.{floats_up_to}

-- the floats from a place on, if there is one
abbrev pub goes_on : List ℕ → List ℕ → Option ℕ → Bool
goes_on ms s None = false
goes_on ms s (Some n) = floats_up_to ms (from s n)

-- after the float at a place, if it is from 0 to the largest, the others follow
pub record After (s : List ℕ) (at most : ℕ) (r : Option ℕ) : Type 0 where
  pub goes : (ms : List ℕ) → floats_up_to (most ∷ ms) (from s at) ≡ goes_on ms s r

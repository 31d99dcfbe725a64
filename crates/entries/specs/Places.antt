-- Comma lists by the places of their entries: what the theorems say of the tests.
use Rattle.std.specs.Prelude.{ℕ, ◌<◌, ◌≡◌, List, [], Bool, true, length, get_or}

-- a place of the list that holds the entry
abbrev pub Holds : List ℕ → List (List ℕ) → Type 0
Holds l ls = (i : ℕ) × (i < length ls) × (get_or ls i [] ≡ l)

-- each place holds an entry that passes the test
abbrev pub Each : (List ℕ → Bool) → List (List ℕ) → Type 0
Each test ls = (i : ℕ) → i < length ls → test (get_or ls i []) ≡ true

-- no two places hold equal entries
abbrev pub Distinct : List (List ℕ) → Type 0
Distinct ls = (i j : ℕ) → i < j → j < length ls → get_or ls i [] ≡ get_or ls j [] → ⊥

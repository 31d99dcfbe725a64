-- Byte strings: when two are equal, which comes first, and a part of one.
use Rattle.std.specs.Prelude.{ℕ, ◌-◌, List, [], ◌∷◌, Bool, true, false, ◌&&◌, ◌||◌, take, drop, ltb, eqb}

unfoldable pub eq_bytes : List ℕ → List ℕ → Bool
eq_bytes [] [] = true
eq_bytes [] (y ∷ b) = false
eq_bytes (x ∷ a) [] = false
eq_bytes (x ∷ a) (y ∷ b) = eqb x y && eq_bytes a b

-- Paper 01, "The table": "by ascending ID bytes". The first byte that differs decides; a string stands before those that go on after it.
unfoldable pub less_bytes : List ℕ → List ℕ → Bool
less_bytes a [] = false
less_bytes [] (y ∷ b) = true
less_bytes (x ∷ a) (y ∷ b) = ltb x y || (eqb x y && less_bytes a b)

-- exactly one of: before, equal, after
pub data Compared : Bool → Bool → Bool → Type 0 where
  before : Compared true false false
  equal : Compared false true false
  after : Compared false false true

-- the bytes from a place up to another
abbrev pub slice : List ℕ → ℕ → ℕ → List ℕ
slice s a e = take (e - a) (drop a s)

-- each byte passes the test
unfoldable pub every : (ℕ → Bool) → List ℕ → Bool
every p [] = true
every p (b ∷ s) = p b && every p s

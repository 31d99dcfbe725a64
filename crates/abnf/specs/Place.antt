-- Where a text goes wrong that is not of a language: "the first byte at which no valid continuation exists (the length if the text ends early)"
-- (paper 02, K1), for any language over bytes.
use Rattle.std.specs.Prelude.{ℕ, ◌+◌, ◌≤◌, ◌<◌, List, ◌++◌, length, take}

-- a valid continuation exists: some text of the language begins so
abbrev pub Viable : (List ℕ → Type 0) → List ℕ → Type 0
Viable L s = (t : List ℕ) × L (s ++ t)

-- the first p bytes of s begin a text of the language; with the byte at p, if there is one, they do not
pub record Furthest (L : List ℕ → Type 0) (s : List ℕ) (p : ℕ) : Type 0 where
  pub inside : p ≤ length s
  pub before : Viable L (take p s)
  pub at : p < length s → Viable L (take (p + 1) s) → ⊥

-- s is not of the language, and p is the first byte at which no valid continuation exists; its length where it ends early
pub record FirstBad (L : List ℕ → Type 0) (s : List ℕ) (p : ℕ) : Type 0 where
  pub fails : L s → ⊥
  pub furthest : Furthest L s p

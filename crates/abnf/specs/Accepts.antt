-- A grammar as a test that runs: `accepts a s` decides `s ∈ a` (proofs/Theorems.antt).
use Rattle.std.specs.Prelude.{ℕ, zero, suc, List, [], ◌∷◌, Bool, true, false, ◌&&◌, length, leb}
use Rattle.abnf.specs.Abnf.{Abnf, ◌–◌, ε, ◌·◌, ◌//◌, ∗◌, rule}

abbrev pub in_range : ℕ → ℕ → ℕ → Bool
in_range lo hi b = leb lo b && leb b hi

unfoldable pub is_empty : List ℕ → Bool
is_empty [] = true
is_empty (b ∷ s) = false

-- at most n times what `one` takes, and then what k takes
unfoldable pub again : ((List ℕ → Bool) → List ℕ → Bool) → (List ℕ → Bool) → ℕ → List ℕ → Bool
again one k zero s = k s
again one k (suc n) s = elim (k s) [ true ↦ true | false ↦ one (again one k n) s ]

-- a word of the expression and then what k takes
unfoldable pub starts : Abnf ⊥ → (List ℕ → Bool) → List ℕ → Bool
starts (lo – hi) k [] = false
starts (lo – hi) k (b ∷ s) = elim (in_range lo hi b) [ true ↦ k s | false ↦ false ]
starts ε k s = k s
starts (a · b) k s = starts a (λ r. starts b k r) s
starts (a // b) k s = elim (starts a k s) [ true ↦ true | false ↦ starts b k s ]
starts (∗ a) k s = again (λ f r. starts a f r) k (length s) s
starts (rule n) k s = absurd n

-- the whole string is a word
unfoldable pub accepts : Abnf ⊥ → List ℕ → Bool
accepts a s = starts a is_empty s

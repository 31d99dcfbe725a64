-- What the crate promises.
use Prim.Native.Nat.{ℕ, ◌≤◌}
use mathlib.Core.Path.{◌≡◌}
use mathlib.Core.List.{List}
use mathlib.Core.Bool.{true}
use mathlib.Core.Logic.{◌↔◌}
use Rattle.abnf.specs.Abnf.{Abnf, ◌∈◌, times, repeat}
use Rattle.abnf.specs.Accepts.{accepts}
use Rattle.abnf.specs.Place.{FirstBad}
use Rattle.abnf.proofs.Accepts.{accepts-word, word-accepts}
use Rattle.abnf.proofs.Repeats.{repeat_is}
use Rattle.abnf.proofs.Places.{one_place}

-- the test decides the grammar
pub accepts_is : (a : Abnf ⊥) (s : List ℕ) → (accepts a s ≡ true) ↔ (s ∈ a)
accepts_is a s = (accepts-word a s, word-accepts a s)

-- lo*hiA is nA for each n from lo to hi
pub repeats : (a : Abnf ⊥) (lo hi : ℕ) (s : List ℕ) → lo ≤ hi → (s ∈ repeat lo hi a) ↔ ((n : ℕ) × (lo ≤ n) × (n ≤ hi) × (s ∈ times n a))
repeats = repeat_is

-- there is one first byte at most at which no valid continuation exists
pub one-first-bad : (L : List ℕ → Type 0) (s : List ℕ) (p q : ℕ) → FirstBad L s p → FirstBad L s q → p ≡ q
one-first-bad L s p q f g = one_place L s p q f.furthest g.furthest

-- One of two tests.
use mathlib.Core.Path.{◌≡◌, refl, ◌∙◌}
use mathlib.Core.Bool.{Bool, true, false, ◌||◌, true≢false}

pub or_yes : (a b : Bool) → a ≡ true → true ≡ (a || b)
or_yes a b e = rw e

pub or_no : (a b r : Bool) → a ≡ false → r ≡ b → r ≡ (a || b)
or_no a b r e q = rw e q

pub or_neither : (a b : Bool) → (a || b) ≡ false → (a ≡ false) × (b ≡ false)
or_neither true b e = absurd (true≢false e)
or_neither false b e = (refl, e)

-- of one that is told as the second
pub or_as : {r b b' : Bool} (a : Bool) → r ≡ (a || b) → b ≡ b' → r ≡ (a || b')
or_as a p q = p ∙ rw q

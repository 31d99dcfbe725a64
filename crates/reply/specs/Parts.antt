-- What the contracts of private functions cite. No promise rests on it.
use Rattle.std.specs.Prelude.{ℕ, List, [], ◌∷◌}
use Rattle.text.specs.declared.Place.{Place}

-- a number and places
abbrev pub places1 : ℕ → Place → List ℕ
places1 n a = n ∷ a.start ∷ a.end ∷ []

abbrev pub places2 : ℕ → Place → Place → List ℕ
places2 n a b = n ∷ a.start ∷ a.end ∷ b.start ∷ b.end ∷ []

abbrev pub places3 : ℕ → Place → Place → Place → List ℕ
places3 n a b c = n ∷ a.start ∷ a.end ∷ b.start ∷ b.end ∷ c.start ∷ c.end ∷ []

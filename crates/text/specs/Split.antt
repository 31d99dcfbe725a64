-- The parts of a byte string between separators: levels of a topic, entries of a comma list.
use Rattle.std.specs.Prelude.{ℕ, suc, ◌+◌, ◌≡◌, List, [], ◌∷◌, ◌++◌, Bool, true, cond, Option, Some, None, not, length, drop, leb, eqb}
use Rattle.text.specs.Bytes.{every}
use Rattle.text.specs.declared.Part.{Part}

-- one more byte in front of the first part
unfoldable pub onto : ℕ → List (List ℕ) → List (List ℕ)
onto b [] = (b ∷ []) ∷ []
onto b (p ∷ ps) = (b ∷ p) ∷ ps

-- all parts in order; the empty string has one, which is empty
unfoldable pub split : ℕ → List ℕ → List (List ℕ)
split sep [] = [] ∷ []
split sep (b ∷ s) = cond (eqb b sep) ([] ∷ split sep s) (onto b (split sep s))

-- a first part and others, with a separator between each two
unfoldable pub join_by : ℕ → List ℕ → List (List ℕ) → List ℕ
join_by sep p [] = p
join_by sep p (q ∷ ps) = p ++ (sep ∷ join_by sep q ps)

-- no separator among the bytes
unfoldable pub free : ℕ → List ℕ → Bool
free sep s = every (λ b. not (eqb b sep)) s

-- no part has a separator
pub data AllFree (sep : ℕ) : List (List ℕ) → Type 0 where
  none : AllFree sep []
  more : {p : List ℕ} {ps : List (List ℕ)} → free sep p ≡ true → AllFree sep ps → AllFree sep (p ∷ ps)

-- the parts of a string: joined again they are the string, and none has a separator
pub record Splits (sep : ℕ) (s : List ℕ) : Type 0 where
  pub first : List ℕ
  pub others : List (List ℕ)
  pub parts : split sep s ≡ first ∷ others
  pub whole : join_by sep first others ≡ s
  pub clean : AllFree sep (first ∷ others)

-- how many bytes stand before the first separator
unfoldable pub first_len : ℕ → List ℕ → ℕ
first_len sep [] = 0
first_len sep (b ∷ s) = cond (eqb b sep) 0 (suc (first_len sep s))

-- a part that is there, by its places
abbrev pub found_part : ℕ → ℕ → ℕ → Option Part
found_part start end next = Some (record { start = start; end = end; next = next })

-- the part that starts at a place, and where the next one would start; past the end there is none
unfoldable pub part_at : ℕ → List ℕ → ℕ → Option Part
part_at sep s at = cond (leb at (length s)) (found_part at (at + first_len sep (drop at s)) (at + first_len sep (drop at s) + 1)) None

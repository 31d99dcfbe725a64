-- What is read from a stream to its end, and what is written to one.
use Rattle.std.specs.Prelude.{ℕ, ◌≡◌, ◌≤◌, List, [], cond, nat_le, length, take, None, Some, ⊤, Option}

-- input that was taken stands in front in the buffer d, and is all that the stream had; else it had as many bytes as the buffer, or more
abbrev pub HoldsAll : Option (List ℕ) → Option ℕ → List ℕ → Type 0
HoldsAll None r d = ⊤
HoldsAll (Some xs) (Some n) d = take n d ≡ xs
HoldsAll (Some xs) None d = length d ≤ length xs

-- the first n bytes of d, or none where there are fewer
abbrev pub front : ℕ → List ℕ → List ℕ
front n d = cond (nat_le n (length d)) (take n d) []

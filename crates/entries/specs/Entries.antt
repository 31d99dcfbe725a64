-- Comma lists. Paper 01, "Payloads of properties": formats of enums, colours and booleans.
use Rattle.std.specs.Prelude.{ℕ, List, [], ◌∷◌, Bool, true, false, not, ◌&&◌, ◌||◌, length, leb}
use Rattle.text.specs.Bytes.{eq_bytes}
use Rattle.text.specs.Split.{split}

-- the strings between commas
abbrev pub entries_of : List ℕ → List (List ℕ)
entries_of s = split 44 s

-- one of the entries, exactly
unfoldable pub is_in : List ℕ → List (List ℕ) → Bool
is_in l [] = false
is_in l (m ∷ ms) = eq_bytes l m || is_in l ms

-- "no empty entry"
unfoldable pub none_empty : List (List ℕ) → Bool
none_empty [] = true
none_empty (l ∷ ls) = leb 1 (length l) && none_empty ls

-- "no repeats"
unfoldable pub no_repeats : List (List ℕ) → Bool
no_repeats [] = true
no_repeats (l ∷ ls) = not (is_in l ls) && no_repeats ls

-- "comma list, no empty entry, no repeats"
unfoldable pub is_list : List ℕ → Bool
is_list s = none_empty (entries_of s) && no_repeats (entries_of s)

-- each of them is one of the others
unfoldable pub all_in : List (List ℕ) → List (List ℕ) → Bool
all_in [] ms = true
all_in (l ∷ ls) ms = is_in l ms && all_in ls ms

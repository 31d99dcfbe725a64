-- Entries by their places, for contracts of functions that go by index.
use Rattle.std.specs.Prelude.{ℕ, List, [], cond, leb, length, drop}
use Rattle.text.specs.Split.{split}

-- the entries from a place on
unfoldable pub from : List ℕ → ℕ → List (List ℕ)
from s i = cond (leb i (length s)) (split 44 (drop i s)) []

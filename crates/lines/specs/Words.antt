-- docs/PROGRAMS.md: "Words are parted by one space".
use Rattle.std.specs.Prelude.{ℕ, List, [], length, get_or}
use Rattle.text.specs.Split.{split}

-- two spaces in a row have an empty word between them, and the empty line is one empty word
unfoldable pub words : List ℕ → List (List ℕ)
words line = split 32 line

-- the word of that number, from 0; no bytes where there is none
unfoldable pub word_at : List ℕ → ℕ → List ℕ
word_at line k = get_or (words line) k []

unfoldable pub word_count : List ℕ → ℕ
word_count line = length (words line)

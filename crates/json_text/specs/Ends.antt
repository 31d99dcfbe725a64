-- A table of where values end, by the place at which they begin, but for strings with a backslash: what it tells is so, and it need not tell all.
use Rattle.std.specs.Prelude.{ℕ, suc, ◌≤◌, ◌<◌, ◌≡◌, List, true, get_or, length, Ok, Result, Option}
use Rattle.json_text.specs.Bytes.{byte, EndsWithin}
use Rattle.json_text.specs.Strings.{raw_bytes, is_plain}
use Rattle.json_text.specs.Value.{value_at, document_of}
use Rattle.json_text.specs.Members.{ItemLies}
use Rattle.json_text.specs.declared.Item.{Item}

-- an entry that lies in the text, more than one past its place, is where the value ends that begins there; a string with a backslash has none
pub record Ends (s ends : List ℕ) : Type 0 where
  pub tells : (k : ℕ) → suc k < get_or ends k 0 → get_or ends k 0 ≤ length s → value_at 16 s k ≡ Ok (get_or ends k 0)
  pub plain : (k : ℕ) → suc k < get_or ends k 0 → get_or ends k 0 ≤ length s → byte s k ≡ 34 → is_plain (raw_bytes s k) ≡ true

-- ---- what the functions ensure

-- the whole text is judged, and the table is right
pub record Marked (s : List ℕ) (r : Result ℕ ℕ) (ends : List ℕ) : Type 0 where
  pub is : r ≡ document_of s
  pub table : Ends s ends

-- a scan from lo whose answer is the definition's if the table is right; where it lies does not hang on that
pub record ScannedIf (given : Type 0) (want : Result ℕ ℕ) (lo hi : ℕ) (r : Result ℕ ℕ) : Type 0 where
  pub is : given → r ≡ want
  pub lies : EndsWithin lo hi r

-- likewise an item from i on, in a text of length n
pub record GotItemIf (given : Type 0) (want : Option Item) (i n : ℕ) (r : Option Item) : Type 0 where
  pub is : given → r ≡ want
  pub lies : ItemLies i n r

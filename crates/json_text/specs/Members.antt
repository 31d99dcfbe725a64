-- The members of an object and the elements of an array as lists of places, and a step through them. The text is judged
-- before: where it is no JSON text the list ends with what can be read.
use Rattle.std.specs.Prelude.{ℕ, zero, suc, ◌+◌, ◌≤◌, ◌<◌, ◌≡◌, List, [], ◌∷◌, true, false, length, eqb, Err, Ok, Option, Some, None}
use Rattle.json_text.specs.Bytes.{byte, ws}
use Rattle.json_text.specs.Value.{key_at, value_at}
use Rattle.json_text.specs.declared.Item.{Item}

-- where a member begins, with its name's quote, and where its value begins and ends; an element begins with its value
pub record Member : Type 0 where
  pub name : ℕ
  pub value : ℕ
  pub end : ℕ

-- past the white space at e, and past a comma with its white space: where the next item begins, or the closing byte
unfoldable pub next_at : List ℕ → ℕ → ℕ
next_at s e = elim (eqb (byte s (ws s e)) 44) [ true ↦ ws s (ws s e + 1) | false ↦ ws s e ]

-- an item whose value is from k up to e, with the next one at n
abbrev pub found : ℕ → ℕ → ℕ → Option Item
found k e n = Some (record { value = k; end = e; next = n })

-- the item whose value is at k
unfoldable pub item_at : List ℕ → ℕ → Option Item
item_at s k = elim (value_at 16 s k) [ Ok e ↦ found k e (next_at s e) | Err e ↦ None ]

-- the element at i
unfoldable pub element_at : List ℕ → ℕ → Option Item
element_at s i = item_at s i

-- the member whose name's quote is at i
unfoldable pub member_at : List ℕ → ℕ → Option Item
member_at s i = elim (key_at s i) [ Ok k ↦ item_at s k | Err e ↦ None ]

-- what a step finds from i on, one after another. The number counts them down: the text's length is enough
unfoldable pub list_from : (ℕ → Option Item) → ℕ → ℕ → List Member
list_from step zero i = []
list_from step (suc f) i = elim (step i) [ Some t ↦ record { name = i; value = t.value; end = t.end } ∷ list_from step f t.next | None ↦ [] ]

-- the members of the object whose brace is at `at`, in document order
unfoldable pub members_at : List ℕ → ℕ → List Member
members_at s at = list_from (member_at s) (suc (length s)) (ws s (at + 1))

-- the elements of the array whose bracket is at `at`
unfoldable pub elements_at : List ℕ → ℕ → List Member
elements_at s at = list_from (element_at s) (suc (length s)) (ws s (at + 1))

-- where an item from i on lies, in a text of length n
abbrev pub ItemLies : ℕ → ℕ → Option Item → Type 0
ItemLies i n (Some t) = (i ≤ t.value) × (t.value < t.end) × (t.end ≤ t.next) × (t.next ≤ n)
ItemLies i n None = Unit {0}

-- an item from i on, in a text of length n
pub record GotItem (want : Option Item) (i n : ℕ) (r : Option Item) : Type 0 where
  pub is : r ≡ want
  pub lies : ItemLies i n r

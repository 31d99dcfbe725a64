-- What the program's list of properties means: each shows its IDs and its format as places in the text.
use Rattle.std.specs.Prelude.{ℕ, suc, ◌≤◌, ◌<◌, ◌≡◌, List, [], ◌∷◌, take}
use Rattle.fields.specs.Values.{string_bytes}
use Rattle.fields.specs.Fields.{text_in}
use Rattle.payload.specs.Formats.{kept_bytes}
use Rattle.properties.specs.declared.Entry.{Entry}
use Rattle.properties.specs.declared.Entries.{Entries}
use Rattle.properties.specs.Property.{Property, text_of, insert}

-- a format that is not valid, `None`, which no valid property has, reads as the empty string, as `NotKept` does: which of the two an entry has changes nothing that it means
unfoldable pub content : List ℕ → Entry → Property
content s e = record {
  node = string_bytes s e.node;
  id = string_bytes s e.id;
  datatype = e.datatype;
  format = text_of (kept_bytes (text_of (text_in s e.format)) e.kept);
  settable = e.settable;
  retained = e.retained;
}

unfoldable pub contents : List ℕ → List Entry → List Property
contents s [] = []
contents s (e ∷ es) = content s e ∷ contents s es

-- the properties in the list, which is an array of 24
unfoldable pub view : List ℕ → Entries → List Property
view s l = contents s (take l.n l.items)

-- Paper 01, "The description": "At most 24 properties in all."
abbrev pub properties_most : ℕ
properties_most = 24

-- a list with one more in its place, and what it says: n counts to 24, where the list is full
pub record Inserted (s : List ℕ) (p : Property) (l r : Entries) : Type 0 where
  pub view : l.n < properties_most → view s r ≡ insert p (view s l)
  pub count : l.n < properties_most → r.n ≡ suc l.n
  pub full : properties_most ≤ l.n → r ≡ l

-- The known fields of the objects of a description by number, and what one walk through an object has seen of them.
use Rattle.std.specs.Prelude.{ℕ, ◌<◌, ◌≡◌, List, [], ◌∷◌, true, false, get_or, length, eqb, None, Option, Some}
use Rattle.json_text.specs.Members.{member_at, GotItem, found}
use Rattle.text.specs.Ascii.{ascii}
use Rattle.faults.specs.Faults.{least}
use Rattle.fields.specs.declared.Owner.{Owner}
use Rattle.fields.specs.declared.Field.{Field}
use Rattle.fields.specs.declared.Known.{Known}
use Rattle.fields.specs.Fields.{field, name_faults}

unfoldable pub known_name : ℕ → List ℕ
known_name c = get_or (
    ascii "name" ∷ ascii "type" ∷ ascii "unit" ∷ ascii "root" ∷
    ascii "homie" ∷ ascii "nodes" ∷
    ascii "parent" ∷ ascii "format" ∷
    ascii "version" ∷
    ascii "datatype" ∷ ascii "settable" ∷ ascii "retained" ∷ ascii "children" ∷
    ascii "properties" ∷ ascii "extensions" ∷ []) c []

-- the number of a known field
abbrev pub number : Field → ℕ
number Field.Name = 0
number Field.Type = 1
number Field.Unit = 2
number Field.Root = 3
number Field.Homie = 4
number Field.Nodes = 5
number Field.Parent = 6
number Field.Format = 7
number Field.Version = 8
number Field.Datatype = 9
number Field.Settable = 10
number Field.Retained = 11
number Field.Children = 12
number Field.Properties = 13
number Field.Extensions = 14

-- by the place of the first value; 0, where no value of a member begins, for none
unfoldable pub field_from : ℕ → Option ℕ
field_from first = elim (eqb first 0) [ true ↦ None | false ↦ Some first ]

-- what was seen of the field number c
unfoldable pub field_at : List ℕ → ℕ → Option ℕ
field_at seen c = field_from (get_or seen c 0)

-- a member's name is at i, its value at k
pub record IsMember (s : List ℕ) (i k : ℕ) : Type 0 where
  pub end : ℕ
  pub next : ℕ
  pub got : GotItem (member_at s i) i (length s) (found k end next)

-- what is told of the names in the object at `at`, and what was seen of each known field is the object's field
pub record Knows (owner : Owner) (s : List ℕ) (at : ℕ) (m : Known) : Type 0 where
  pub told : m.told ≡ least (name_faults owner s at)
  pub fields : (c : ℕ) → c < 15 → field_at m.seen c ≡ field s at (known_name c)

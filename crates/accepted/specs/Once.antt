-- Tests, how strings are read, and the fields of an object by how often they stand there (paper 01, "The description"; paper 02, K4).
use Rattle.std.specs.Prelude.{ℕ, List, [], ◌∷◌, Bool, true, false, Option, None, Some}
use Rattle.text.specs.Bytes.{eq_bytes}
use Rattle.json_text.specs.Strings.{raw_bytes, is_plain}
use Rattle.json_text.specs.Members.{Member}
use Rattle.escapes.specs.Decode.{Decoded, whole, half, decode}
use Rattle.fields.specs.Values.{members}

-- every test holds
unfoldable pub holds : List Bool → Bool
holds [] = true
holds (t ∷ ts) = elim t [ true ↦ holds ts | false ↦ false ]

-- a test holds of every member
unfoldable pub all : (Member → Bool) → List Member → Bool
all test [] = true
all test (m ∷ ms) = elim (test m) [ true ↦ all test ms | false ↦ false ]

-- ---- strings

-- What stands between two quotes is read as a string, or it is not allowed there.
abbrev pub Reading : Type 0
Reading = List ℕ → Option (List ℕ)

-- Paper 01: "House rule: no backslash in a field name of these objects nor in the strings `homie`, `datatype`, `root`, `parent`, a kept `format`, or an ID in
-- `children`."
unfoldable pub as_sent : Reading
as_sent raw = elim (is_plain raw) [ true ↦ Some raw | false ↦ None ]

-- Paper 02, K4: these strings "are now decoded by RFC 8259 before any rule is applied, surrogate pairs included .. That rule falls .. half a surrogate pair in
-- such a string is 25"
unfoldable pub if_whole : Decoded → Option (List ℕ)
if_whole (whole t) = Some t
if_whole (half p) = None

unfoldable pub decoded : Reading
decoded raw = if_whole (decode raw)

-- the string at k
unfoldable pub read_at : Reading → List ℕ → ℕ → Option (List ℕ)
read_at read s k = read (raw_bytes s k)

-- it is allowed, and passes a test
unfoldable pub passes : (List ℕ → Bool) → Option (List ℕ) → Bool
passes test None = false
passes test (Some t) = test t

unfoldable pub is_read : List ℕ → Bool
is_read t = true

-- ---- fields

-- "No known field and no ID twice in its object.": a name stands there not at all, once with its value at k, or more often
pub data Once : Type 0 where
  Absent : Once
  One : ℕ → Once
  Twice : Once

-- one member more of that name, its value at k
unfoldable pub one_more : Once → ℕ → Once
one_more Absent k = One k
one_more (One j) k = Twice
one_more Twice k = Twice

-- a member has that name
unfoldable pub is_named : Reading → List ℕ → List ℕ → Member → Bool
is_named read s name m = passes (λ t. eq_bytes t name) (read_at read s m.name)

-- what members add to what was seen of a name
unfoldable pub field_in : Reading → List ℕ → List ℕ → Once → List Member → Once
field_in read s name seen [] = seen
field_in read s name seen (m ∷ ms) = elim (is_named read s name m) [
  | true ↦ field_in read s name (one_more seen m.value) ms
  | false ↦ field_in read s name seen ms
]

-- the field of that name in the object at `at`
unfoldable pub field : Reading → List ℕ → ℕ → List ℕ → Once
field read s at name = field_in read s name Absent (members s at)

unfoldable pub is_twice : Once → Bool
is_twice Absent = false
is_twice (One k) = false
is_twice Twice = true

unfoldable pub is_present : Once → Bool
is_present Absent = false
is_present (One k) = true
is_present Twice = true

-- at most once, and then with a value that passes a test
unfoldable pub optional : (ℕ → Bool) → Once → Bool
optional test Absent = true
optional test (One k) = test k
optional test Twice = false

-- exactly once, with such a value
unfoldable pub required : (ℕ → Bool) → Once → Bool
required test Absent = false
required test (One k) = test k
required test Twice = false

-- the members of the object that a field holds
unfoldable pub members_in : List ℕ → Once → List Member
members_in s Absent = []
members_in s (One k) = members s k
members_in s Twice = []

-- the field names of the object at `at` are allowed
unfoldable pub names_read : Reading → List ℕ → ℕ → Bool
names_read read s at = all (λ m. passes is_read (read_at read s m.name)) (members s at)

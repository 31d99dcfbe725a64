-- Paper 01, "The description", as a list of tests: a description is taken where each of them holds. `own` is the device's ID, `s` the text; `read` is how its
-- strings are read: `as_sent` in paper 01, `decoded` since paper 02's K4.
use Rattle.std.specs.Prelude.{ℕ, List, [], ◌∷◌, ◌++◌, Bool, true, false, not, ◌&&◌, ◌||◌, length, leb, Option, None, Some, Err, Ok, Result}
use Rattle.text.specs.Bytes.{eq_bytes}
use Rattle.text.specs.Ids.{is_id}
use Rattle.text.specs.Utf8.{is_utf8}
use Rattle.numbers.specs.Integer.{integer}
use Rattle.json_text.specs.Bytes.{ws}
use Rattle.json_text.specs.Value.{document_of}
use Rattle.json_text.specs.Members.{Member}
use Rattle.ranges.specs.Ranges.{is_some}
use Rattle.payload.specs.Datatypes.{datatype_named}
use Rattle.payload.specs.Formats.{is_format, when_missing}
use Rattle.payload.specs.declared.Datatype.{Datatype}
use Rattle.fields.specs.Values.{value_bytes, is_string_at, is_object, is_array, is_flag, members, elements}
use Rattle.properties.specs.Names.{datatype, unit, format, settable, retained}
use Rattle.properties.specs.Property.{is_kept}
use Rattle.nodes.specs.Names.{properties}
use Rattle.description.specs.Names.{homie, version, nodes, name, type, children, root, parent, extensions}
use Rattle.description.specs.Description.{is_homie, is_number}
use Rattle.accepted.specs.Once.{Reading, read_at, passes, Once, Absent, One, Twice, holds, all, field, is_twice, is_present, optional, required, members_in, names_read}

-- ---- values

-- a string that passes a test
unfoldable pub is_text : (List ℕ → Bool) → Reading → List ℕ → ℕ → Bool
is_text test read s k = is_string_at s k && passes test (read_at read s k)

-- an array each of whose elements passes a test
unfoldable pub array_of : (ℕ → Bool) → List ℕ → ℕ → Bool
array_of test s k = is_array s k && all (λ m. test m.value) (elements s k)

-- ---- a property

-- the datatype that a string names
unfoldable pub type_named : Option (List ℕ) → Option Datatype
type_named None = None
type_named (Some t) = datatype_named t

-- "`datatype` (required, one of the nine above)": the datatype that a field names
unfoldable pub datatype_in : Reading → List ℕ → Once → Option Datatype
datatype_in read s Absent = None
datatype_in read s (One k) = elim (is_string_at s k) [ true ↦ type_named (read_at read s k) | false ↦ None ]
datatype_in read s Twice = None

-- the string at k is a format of the datatype. "Formats of other types are not kept and may be any string."
unfoldable pub fits_at : Reading → List ℕ → Datatype → ℕ → Bool
fits_at read s d k = not (is_kept d) || passes (is_format d) (read_at read s k)

-- the format, given or not, is valid for the datatype
unfoldable pub format_fits : Reading → List ℕ → Option Datatype → Once → Bool
format_fits read s None f = true
format_fits read s (Some d) Absent = is_some (when_missing d)
format_fits read s (Some d) (One k) = fits_at read s d k
format_fits read s (Some d) Twice = true

-- "A property: `datatype` (required, one of the nine above), `name`, `unit`, `format` strings, `settable` (default false), `retained`
-- (default true) booleans.": the fields of the object at k
unfoldable pub property_field_rules : Reading → List ℕ → ℕ → List Bool
property_field_rules read s k =
    is_some (datatype_in read s (field read s k datatype)) ∷
    optional (is_string_at s) (field read s k name) ∷
    optional (is_string_at s) (field read s k unit) ∷
    optional (is_string_at s) (field read s k format) ∷
    format_fits read s (datatype_in read s (field read s k datatype)) (field read s k format) ∷
    optional (is_flag s) (field read s k settable) ∷
    optional (is_flag s) (field read s k retained) ∷ []

-- the value at k
unfoldable pub property_rules : Reading → List ℕ → ℕ → List Bool
property_rules read s k = is_object s k ∷ names_read read s k ∷ property_field_rules read s k

-- ---- a node

-- "object by ID": a member's name, in the object at `at`, is an ID. "No .. ID twice in its object."
unfoldable pub is_once : Reading → List ℕ → ℕ → List ℕ → Bool
is_once read s at id = not (is_twice (field read s at id))

unfoldable pub id_rules : Reading → List ℕ → ℕ → Member → List Bool
id_rules read s at m =
    passes is_id (read_at read s m.name) ∷
    passes (is_once read s at) (read_at read s m.name) ∷ []

-- a member of `properties`, the object at `at`
unfoldable pub property_member : Reading → List ℕ → ℕ → Member → List Bool
property_member read s at m = id_rules read s at m ++ property_rules read s m.value

-- the tests of every member of the object that a field holds
unfoldable pub each : (ℕ → Member → List Bool) → List ℕ → Once → Bool
each rules s Absent = true
each rules s (One k) = all (λ m. holds (rules k m)) (members s k)
each rules s Twice = true

-- "A node: `name`, `type` strings, `properties` object by ID.": the fields of the object at k
unfoldable pub node_field_rules : Reading → List ℕ → ℕ → List Bool
node_field_rules read s k =
    optional (is_string_at s) (field read s k name) ∷
    optional (is_string_at s) (field read s k type) ∷
    optional (is_object s) (field read s k properties) ∷
    each (property_member read s) s (field read s k properties) ∷ []

-- the value at k
unfoldable pub node_rules : Reading → List ℕ → ℕ → List Bool
node_rules read s k = is_object s k ∷ names_read read s k ∷ node_field_rules read s k

-- a member of `nodes`, the object at `at`
unfoldable pub node_member : Reading → List ℕ → ℕ → Member → List Bool
node_member read s at m = id_rules read s at m ++ node_rules read s m.value

-- the properties of these nodes
unfoldable pub properties_of : Reading → List ℕ → List Member → List Member
properties_of read s [] = []
properties_of read s (n ∷ ns) = members_in s (field read s n.value properties) ++ properties_of read s ns

-- "`nodes` (object by ID)": what a field holds. "At most 24 properties in all."
unfoldable pub nodes_rules : Reading → List ℕ → Once → List Bool
nodes_rules read s f =
    each (node_member read s) s f ∷
    leb (length (properties_of read s (members_in s f))) 24 ∷ []

-- ---- the device

-- "`nodes` (object by ID), `name`, `type` (strings), `children` (array of IDs), .. `extensions` (array of strings)"
unfoldable pub other_rules : Reading → List ℕ → ℕ → List Bool
other_rules read s at =
    optional (is_object s) (field read s at nodes) ∷
    optional (is_string_at s) (field read s at name) ∷
    optional (is_string_at s) (field read s at type) ∷
    optional (array_of (is_text is_id read s) s) (field read s at children) ∷
    optional (array_of (is_string_at s) s) (field read s at extensions) ∷ []

-- "`root`, `parent` (IDs) .. neither is the device's own ID"
unfoldable pub is_relative : List ℕ → List ℕ → Bool
is_relative own t = is_id t && not (eq_bytes t own)

-- "`parent` needs `root`"
unfoldable pub parent_rules : List ℕ → Reading → List ℕ → (root parent : Once) → List Bool
parent_rules own read s root parent =
    optional (is_text (is_relative own) read s) parent ∷
    (not (is_present parent) || is_present root) ∷ []

-- "Fields: `homie` (required, `5.` and 1 to 3 digits ..), `version` (required, number without fraction or exponent, signed 64-bit)", and the others.
-- "Null is never allowed in these. Other fields may hold any JSON value.": the fields of the object at `at`
unfoldable pub device_field_rules : List ℕ → Reading → List ℕ → ℕ → List Bool
device_field_rules own read s at =
    required (is_text is_homie read s) (field read s at homie) ∷
    required (λ k. is_number (integer (value_bytes s k))) (field read s at version) ∷
    (other_rules read s at ++
    (optional (is_text (is_relative own) read s) (field read s at root) ∷
    (parent_rules own read s (field read s at root) (field read s at parent) ++
    nodes_rules read s (field read s at nodes))))

-- "A JSON object": the value at `at`
unfoldable pub device_rules : List ℕ → Reading → List ℕ → ℕ → List Bool
device_rules own read s at = is_object s at ∷ names_read read s at ∷ device_field_rules own read s at

-- the reader of JSON, nested at most 16 deep, takes the text
unfoldable pub is_end : Result ℕ ℕ → Bool
is_end (Ok e) = true
is_end (Err e) = false

-- "A JSON object, white space around allowed, of at most 8,192 bytes, nesting at most 16." (a JSON text is UTF-8: RFC 8259, 8.1)
unfoldable pub rules : Reading → (own s : List ℕ) → List Bool
rules read own s =
    leb (length s) 8192 ∷
    is_utf8 s ∷
    is_end (document_of s) ∷ device_rules own read s (ws s 0)

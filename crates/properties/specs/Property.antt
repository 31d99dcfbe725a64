-- A property of a description (paper 01, "The description"; paper 02, K4): the faults of its object, what it declares, and the order of properties.
use Rattle.std.specs.Prelude.{ℕ, List, [], ◌∷◌, ◌++◌, Bool, true, false, ◌&&◌, ◌||◌, Option, None, Some}
use Rattle.text.specs.Bytes.{eq_bytes, less_bytes}
use Rattle.fields.specs.Values.{string_bytes, is_string_at, is_object}
use Rattle.faults.specs.declared.Fault.{Fault}
use Rattle.faults.specs.Faults.{missing, other_rule, ◌otherwise◌}
use Rattle.fields.specs.Fields.{field, text_in, flag_in, of_kind, decoded_faults, field_faults, close_at, name_faults}
use Rattle.fields.specs.declared.Kind.TheVariants.{Text, Flag}
use Rattle.fields.specs.declared.Owner.TheVariants as owner
use Rattle.payload.specs.Datatypes.{datatype_named}
use Rattle.ranges.specs.Ranges.{is_some}
use Rattle.payload.specs.Formats.{is_format, when_missing, kept_format}
use Rattle.payload.specs.declared.Datatype.{Datatype}
use Rattle.payload.specs.declared.Datatype.TheVariants as D
use Rattle.properties.specs.Names.{datatype, name, unit, format, settable, retained}

-- "`datatype` (required, one of the nine above)": the datatype that a field names. A string with half a surrogate pair has no bytes, and names none
unfoldable pub datatype_in : List ℕ → Option ℕ → Option Datatype
datatype_in s None = None
datatype_in s (Some k) = elim (is_string_at s k) [ true ↦ datatype_named (string_bytes s k) | false ↦ None ]

-- "one of the nine above": the bytes t of the string at k name one
unfoldable pub datatype_rule : ℕ → List ℕ → List Fault
datatype_rule k t = is_some (datatype_named t) otherwise other_rule k

-- "required": of the property whose object is at `at`
unfoldable pub datatype_faults : List ℕ → ℕ → Option ℕ → List Fault
datatype_faults s at None = missing (close_at s at) ∷ []
datatype_faults s at (Some k) = of_kind (is_string_at s k) k (decoded_faults s k (datatype_rule k))

-- "Formats, at most 64 bytes where kept": the bytes t of the string at k are one of the datatype
unfoldable pub format_rule : Datatype → ℕ → List ℕ → List Fault
format_rule d k t = is_format d t otherwise other_rule k

-- "integer and float ..", "Enum", "Color", "Boolean"; "Formats of other types are not kept"
unfoldable pub is_kept : Datatype → Bool
is_kept D.Integer = true
is_kept D.Float = true
is_kept D.Enum = true
is_kept D.Color = true
is_kept D.Boolean = true
is_kept D.String = false
is_kept D.Datetime = false
is_kept D.Duration = false
is_kept D.Json = false

-- K4: "the strings in document 01's backslash rule are now decoded", "a kept `format`" among them; one that is not kept "may be any string"
unfoldable pub given_faults : Bool → Datatype → List ℕ → ℕ → List Fault
given_faults true d s k = decoded_faults s k (format_rule d k)
given_faults false d s k = []

-- the format, by the property's datatype: "a required field missing, an enum's or colour's format included (place of the object's closing brace)"; where
-- the datatype is missing, bad or has half a surrogate pair, the format's kind alone is judged
unfoldable pub format_faults : List ℕ → ℕ → Option Datatype → Option ℕ → List Fault
format_faults s at None f = field_faults Text s f
format_faults s at (Some d) None = is_some (when_missing d) otherwise missing (close_at s at)
format_faults s at (Some d) (Some k) = of_kind (is_string_at s k) k (given_faults (is_kept d) d s k)

-- "A property: `datatype` (required, one of the nine above), `name`, `unit`, `format` strings, `settable` (default false), `retained`
-- (default true) booleans.": the faults of the fields of the object at k
unfoldable pub property_field_faults : List ℕ → ℕ → List Fault
property_field_faults s k =
    name_faults owner.Property s k ++
    (datatype_faults s k (field s k datatype) ++
    (field_faults Text s (field s k name) ++
    (field_faults Text s (field s k unit) ++
    (format_faults s k (datatype_in s (field s k datatype)) (field s k format) ++
    (field_faults Flag s (field s k settable) ++
    field_faults Flag s (field s k retained))))))

-- the faults of the value at k
unfoldable pub property_faults : List ℕ → ℕ → List Fault
property_faults s k = of_kind (is_object s k) k (property_field_faults s k)

-- Paper 01, "The table": a property is named by its node's ID and its own, "with its datatype, kept format and two flags"
pub record Property : Type 0 where
  pub node : List ℕ
  pub id : List ℕ
  pub datatype : Datatype
  pub format : List ℕ
  pub settable : Bool
  pub retained : Bool

-- every valid property has a datatype
unfoldable pub type_of : Option Datatype → Datatype
type_of None = D.String
type_of (Some d) = d

-- every valid property keeps a format, which may be empty
unfoldable pub text_of : Option (List ℕ) → List ℕ
text_of None = []
text_of (Some t) = t

-- the property whose object is at k; the strings at `node` and `id` name it
unfoldable pub property_at : List ℕ → ℕ → ℕ → ℕ → Property
property_at s node id k = record {
  node = string_bytes s node;
  id = string_bytes s id;
  datatype = type_of (datatype_in s (field s k datatype));
  format = text_of (kept_format (type_of (datatype_in s (field s k datatype))) (text_in s (field s k format)));
  settable = flag_in s false (field s k settable);
  retained = flag_in s true (field s k retained);
}

-- "by node ID, then property ID"
unfoldable pub is_before : Property → Property → Bool
is_before p q = less_bytes p.node q.node || (eq_bytes p.node q.node && less_bytes p.id q.id)

-- a list with one more, before the first that it stands before
unfoldable pub insert : Property → List Property → List Property
insert p [] = p ∷ []
insert p (q ∷ qs) = elim (is_before p q) [ true ↦ p ∷ (q ∷ qs) | false ↦ q ∷ insert p qs ]

-- a list with others put in, one after another
unfoldable pub insert_all : List Property → List Property → List Property
insert_all [] qs = qs
insert_all (p ∷ ps) qs = insert_all ps (insert p qs)

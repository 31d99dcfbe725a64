-- A device's description (paper 01, "The description"; paper 02, K1 and K4): its faults, what is told of them, and what it declares.
-- `field s at name` is the field of that name in the object at the place `at` of the text s. The faults of nodes stand in crate `nodes`, those
-- of a property in crate `properties`.
use Rattle.std.specs.Prelude.{ℕ, List, [], ◌∷◌, ◌++◌, map, Bool, true, false, not, ◌&&◌, ◌||◌, length, take, drop, get_or, eqb, leb, ℤ, pos, Option, None, Some}
use Rattle.answer.specs.Answer.{Answer, refused, placed, gives}
use Rattle.text.specs.Bytes.{eq_bytes}
use Rattle.text.specs.Ids.{is_id}
use Rattle.numbers.specs.Digits.{is_digit}
use Rattle.numbers.specs.Integer.{integer}
use Rattle.json_text.specs.Bytes.{ws}
use Rattle.json_grammar.specs.Place.{bad_places}
use Rattle.faults.specs.declared.Fault.{Fault}
use Rattle.faults.specs.Faults.{least, not_json, missing, other_rule, ◌otherwise◌, fault_number}
use Rattle.fields.specs.Values.{value_bytes, is_string_at, is_number_at, is_object}
use Rattle.fields.specs.Fields.{field, is_present, text_in, members_in, of_kind, decoded_faults, field_faults, close_at, name_faults}
use Rattle.fields.specs.declared.Kind.TheVariants.{Text, Object, Ids, Texts}
use Rattle.fields.specs.declared.Owner.TheVariants as owner
use Rattle.text.specs.Ascii.{ascii}
use Rattle.properties.specs.Property.{Property, insert_all}
use Rattle.nodes.specs.Nodes.{nodes_faults, properties_of}
use Rattle.description.specs.Names.{homie, version, nodes, name, type, children, root, parent, extensions}

unfoldable pub all_digits : List ℕ → Bool
all_digits [] = true
all_digits (b ∷ bs) = elim (is_digit b) [ true ↦ all_digits bs | false ↦ false ]

-- "1 to 3 digits, no leading zero unless `0`"
unfoldable pub is_minor : List ℕ → Bool
is_minor t = leb 1 (length t) && (leb (length t) 3 && (all_digits t && (not (eqb (get_or t 0 0) 48) || eqb (length t) 1)))

-- "`5.` and 1 to 3 digits .."
unfoldable pub is_homie : List ℕ → Bool
is_homie t = eq_bytes (take 2 t) (ascii "5.") && is_minor (drop 2 t)

-- the known fields of the object at `at`

-- "`homie` (required ..)"
unfoldable pub homie_rule : ℕ → List ℕ → List Fault
homie_rule k t = is_homie t otherwise other_rule k

unfoldable pub homie_faults : List ℕ → ℕ → Option ℕ → List Fault
homie_faults s at None = missing (close_at s at) ∷ []
homie_faults s at (Some k) = of_kind (is_string_at s k) k (decoded_faults s k (homie_rule k))

-- "`version` (required, number without fraction or exponent, signed 64-bit)": the number that a field holds
unfoldable pub version_in : List ℕ → Option ℕ → Option ℤ
version_in s None = None
version_in s (Some k) = integer (value_bytes s k)

unfoldable pub is_number : Option ℤ → Bool
is_number None = false
is_number (Some z) = true

unfoldable pub version_faults : List ℕ → ℕ → Option ℕ → List Fault
version_faults s at None = missing (close_at s at) ∷ []
version_faults s at (Some k) = of_kind (is_number_at s k) k (is_number (integer (value_bytes s k)) otherwise other_rule k)

-- "`nodes` (object by ID), `name`, `type` (strings), `children` (array of IDs), .. `extensions` (array of strings)"
unfoldable pub other_faults : List ℕ → ℕ → List Fault
other_faults s at =
    field_faults Object s (field s at nodes) ++
    (field_faults Text s (field s at name) ++
    (field_faults Text s (field s at type) ++
    (field_faults Ids s (field s at children) ++
    field_faults Texts s (field s at extensions))))

-- "`root`, `parent` (IDs)": a string at k, by its bytes. "neither is the device's own ID"
unfoldable pub relative_faults : List ℕ → ℕ → List ℕ → List Fault
relative_faults own k t =
    (is_id t otherwise other_rule k) ++
    (not (eq_bytes t own) otherwise other_rule k)

unfoldable pub root_faults : List ℕ → List ℕ → Option ℕ → List Fault
root_faults own s None = []
root_faults own s (Some k) = of_kind (is_string_at s k) k (decoded_faults s k (relative_faults own k))

-- "`parent` without `root` is 25 at the `parent` string": `rooted` where the field `root` is there
unfoldable pub parent_rule : List ℕ → Bool → ℕ → List ℕ → List Fault
parent_rule own rooted k t = relative_faults own k t ++ (rooted otherwise other_rule k)

unfoldable pub parent_faults : List ℕ → List ℕ → (root parent : Option ℕ) → List Fault
parent_faults own s r None = []
parent_faults own s r (Some k) = of_kind (is_string_at s k) k (decoded_faults s k (parent_rule own (is_present r) k))

-- all properties, in the text's order
unfoldable pub declared : List ℕ → ℕ → List Property
declared s at = properties_of s (members_in s (field s at nodes))

-- "Fields: `homie` .., `version` ..", and the others, then its nodes: the faults of the fields of the object at `at`
unfoldable pub device_field_faults : List ℕ → List ℕ → ℕ → List Fault
device_field_faults own s at =
    name_faults owner.Device s at ++
    (homie_faults s at (field s at homie) ++
    (version_faults s at (field s at version) ++
    (other_faults s at ++
    (root_faults own s (field s at root) ++
    (parent_faults own s (field s at root) (field s at parent) ++
    nodes_faults s (field s at nodes))))))

-- "A JSON object": "a value, the outermost included, of the wrong JSON kind (its first byte)"
unfoldable pub device_faults : List ℕ → List ℕ → ℕ → List Fault
device_faults own s at = of_kind (is_object s at) at (device_field_faults own s at)

-- "The JSON is judged first: not JSON, too deep or over 8,192 bytes, with the smallest of these places": crate json_grammar lists them, and proves over the
-- grammar which they are
unfoldable pub json_faults : List ℕ → List Fault
json_faults s = map not_json (bad_places s)

-- "Then the known fields": where the text is no such JSON, nothing else is looked for
unfoldable pub faults : List ℕ → List ℕ → List Fault
faults own s = elim (json_faults s) [ [] ↦ device_faults own s (ws s 0) | f ∷ fs ↦ f ∷ fs ]

-- what is told of a description
unfoldable pub told : (own s : List ℕ) → Option Fault
told own s = least (faults own s)

-- every valid description has a version
unfoldable pub number_of : Option ℤ → ℤ
number_of None = pos 0
number_of (Some z) = z

-- Paper 01, "The table": "from its description: root, parent, version, properties"
pub record Described : Type 0 where
  pub root : Option (List ℕ)
  pub parent : Option (List ℕ)
  pub version : ℤ
  pub properties : List Property

unfoldable pub described_in : List ℕ → ℕ → Described
described_in s at = record {
  root = text_in s (field s at root);
  parent = text_in s (field s at parent);
  version = number_of (version_in s (field s at version));
  properties = insert_all (declared s at) [];
}

-- "Refusals: .. 21 not JSON, too deep or too long, 22 wrong kind, 23 missing, 24 repeated, 25 other rule", each with its place: what is told refuses, and
-- if there is nothing, the answer stands
unfoldable pub answered : {A : Type 0} → Option Fault → Answer A → Answer A
answered None a = a
answered (Some f) a = refused (placed (fault_number f.kind) f.place)

unfoldable pub describe : List ℕ → List ℕ → Answer Described
describe own s = answered (told own s) (gives (described_in s (ws s 0)))

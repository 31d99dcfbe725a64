-- Known fields of an object, each at its first member of that name, and the faults of fields and names (paper 02, K1 and K4).
use Rattle.std.specs.Prelude.{ℕ, suc, ◌+◌, ◌-◌, List, [], ◌∷◌, ◌++◌, Bool, true, false, not, ◌||◌, eqb, Option, None, Some, Err, Ok}
use Rattle.json_text.specs.Value.{value_at}
use Rattle.json_text.specs.Members.{Member}
use Rattle.text.specs.Ids.{is_id}
use Rattle.escapes.specs.Decode.{Decoded, whole, half}
use Rattle.faults.specs.declared.Fault.{Fault}
use Rattle.faults.specs.Faults.{wrong_kind, repeated, other_rule, ◌otherwise◌}
use Rattle.fields.specs.declared.Kind.{Kind}
use Rattle.fields.specs.declared.Kind.TheVariants.{Text, Flag, Object, Ids, Texts}
use Rattle.fields.specs.declared.Owner.{Owner}
use Rattle.fields.specs.Values.{string_bytes, is_string_at, is_object, is_array, is_true, is_flag, members, elements, decoded_at, is_named}
use Rattle.fields.specs.Names.{is_known}

-- ---- fields

-- one member more of that name, its value at k: "the other rules go by the first value"
unfoldable pub one_more : Option ℕ → ℕ → Option ℕ
one_more None k = Some k
one_more (Some j) k = Some j

-- what members add to what was seen of a name
unfoldable pub field_in : List ℕ → List ℕ → Option ℕ → List Member → Option ℕ
field_in s name seen [] = seen
field_in s name seen (m ∷ ms) = elim (is_named s name m) [
  | true ↦ field_in s name (one_more seen m.value) ms
  | false ↦ field_in s name seen ms
]

-- the field of that name in the object at `at`
unfoldable pub field : List ℕ → ℕ → List ℕ → Option ℕ
field s at name = field_in s name None (members s at)

unfoldable pub is_present : Option ℕ → Bool
is_present None = false
is_present (Some k) = true

-- the string that a field holds
unfoldable pub text_in : List ℕ → Option ℕ → Option (List ℕ)
text_in s None = None
text_in s (Some k) = Some (string_bytes s k)

-- the boolean that a field holds, with what holds where it is absent
unfoldable pub flag_in : List ℕ → Bool → Option ℕ → Bool
flag_in s default None = default
flag_in s default (Some k) = is_true s k

-- the members of the object that a field holds
unfoldable pub members_in : List ℕ → Option ℕ → List Member
members_in s None = []
members_in s (Some k) = members s k

-- ---- values: "a value .. of the wrong JSON kind (its first byte)"

-- the faults of a value at k that should be of a kind: where it is of another one, nothing else is asked of it
unfoldable pub of_kind : Bool → ℕ → List Fault → List Fault
of_kind true k fs = fs
of_kind false k fs = wrong_kind k ∷ []

-- the faults of each, one after another
unfoldable pub among : (Member → List Fault) → List Member → List Fault
among f [] = []
among f (m ∷ ms) = f m ++ among f ms

unfoldable pub string_faults : List ℕ → ℕ → List Fault
string_faults s k = is_string_at s k otherwise wrong_kind k

-- Paper 02, K4: "half a surrogate pair in such a string is 25, told at its backslash, and no other rule is applied to that string": the faults of a string that
-- opens at k, by those that its bytes have
unfoldable pub unless_half : Decoded → ℕ → (List ℕ → List Fault) → List Fault
unless_half (whole t) k rules = rules t
unless_half (half p) k rules = other_rule (suc k + p) ∷ []

unfoldable pub decoded_faults : List ℕ → ℕ → (List ℕ → List Fault) → List Fault
decoded_faults s k rules = unless_half (decoded_at s k) k rules

-- no rule for the bytes
unfoldable pub no_rule : List ℕ → List Fault
no_rule t = []

-- a string at k whose bytes are an ID
unfoldable pub id_rule : ℕ → List ℕ → List Fault
id_rule k t = is_id t otherwise other_rule k

unfoldable pub id_faults : List ℕ → ℕ → List Fault
id_faults s k = of_kind (is_string_at s k) k (decoded_faults s k (id_rule k))

-- an array, and its elements
unfoldable pub array_faults : (List ℕ → ℕ → List Fault) → List ℕ → ℕ → List Fault
array_faults each s k = of_kind (is_array s k) k (among (λ m. each s m.value) (elements s k))

-- what a known field may hold: a string, a boolean, an object, an array of IDs, an array of strings. "Null is never allowed in these."
unfoldable pub kind_faults : Kind → List ℕ → ℕ → List Fault
kind_faults Text s k = string_faults s k
kind_faults Flag s k = is_flag s k otherwise wrong_kind k
kind_faults Object s k = is_object s k otherwise wrong_kind k
kind_faults Ids s k = array_faults id_faults s k
kind_faults Texts s k = array_faults string_faults s k

-- a field that may be absent
unfoldable pub field_faults : Kind → List ℕ → Option ℕ → List Fault
field_faults kind s None = []
field_faults kind s (Some k) = kind_faults kind s k

-- "a required field missing .. (place of the object's closing brace)": the closing brace of the object at `at`
unfoldable pub close_at : List ℕ → ℕ → ℕ
close_at s at = elim (value_at 16 s at) [ Ok e ↦ e - 1 | Err e ↦ at ]

-- ---- names

-- the field's first value is the one at k
unfoldable pub is_first : ℕ → Option ℕ → Bool
is_first k None = false
is_first k (Some j) = eqb j k

-- a member of the object at `at`, with its value at k, is the first of its name; one with half a surrogate pair repeats none
unfoldable pub first_of : List ℕ → ℕ → ℕ → Decoded → Bool
first_of s at k (whole t) = is_first k (field s at t)
first_of s at k (half p) = true

unfoldable pub comes_first : List ℕ → ℕ → Member → Bool
comes_first s at m = first_of s at m.value (decoded_at s m.name)

-- "a known field .. repeated (the second name ..)", and each later one: the member's name is t
unfoldable pub repeat_faults : Owner → List ℕ → ℕ → Member → List ℕ → List Fault
repeat_faults owner s at m t = (not (is_known owner t) || is_first m.value (field s at t)) otherwise repeated m.name

unfoldable pub name_faults_of : Owner → List ℕ → ℕ → Member → List Fault
name_faults_of owner s at m = decoded_faults s m.name (repeat_faults owner s at m)

-- the field names of the object at `at`
unfoldable pub name_faults : Owner → List ℕ → ℕ → List Fault
name_faults owner s at = among (name_faults_of owner s at) (members s at)

-- "object by ID": a member's name is an ID. "a known field or ID repeated (the second name; the other rules go by the first value)": the value of a
-- repeated one is not judged; `value` has its faults
unfoldable pub entry_faults : List ℕ → ℕ → List Fault → Member → List Fault
entry_faults s at value m =
    decoded_faults s m.name (id_rule m.name) ++
    elim (comes_first s at m) [ true ↦ value | false ↦ repeated m.name ∷ [] ]

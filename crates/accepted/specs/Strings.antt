-- The strings that paper 01's backslash rule is about, which K4 decodes: their places in the text s.
use Rattle.std.specs.Prelude.{ℕ, List, [], ◌∷◌, ◌++◌, Bool, true, false, Option, None, Some}
use Rattle.json_text.specs.Bytes.{ws}
use Rattle.json_text.specs.Strings.{raw_bytes, is_plain}
use Rattle.json_text.specs.Members.{Member}
use Rattle.payload.specs.declared.Datatype.{Datatype}
use Rattle.fields.specs.Values.{members, elements}
use Rattle.properties.specs.Names.{datatype, format}
use Rattle.properties.specs.Property.{is_kept}
use Rattle.nodes.specs.Names.{properties}
use Rattle.description.specs.Names.{homie, nodes, children, root, parent}
use Rattle.accepted.specs.Once.{Once, Absent, One, Twice, decoded, field}
use Rattle.accepted.specs.Rules.{datatype_in}

-- no backslash in any of them
unfoldable pub no_backslash : List ℕ → List ℕ → Bool
no_backslash s [] = true
no_backslash s (k ∷ ks) = elim (is_plain (raw_bytes s k)) [ true ↦ no_backslash s ks | false ↦ false ]

-- those of the value that a field holds
unfoldable pub in_field : (ℕ → List ℕ) → Once → List ℕ
in_field strings Absent = []
in_field strings (One k) = strings k
in_field strings Twice = []

-- those of each member
unfoldable pub throughout : (Member → List ℕ) → List Member → List ℕ
throughout strings [] = []
throughout strings (m ∷ ms) = strings m ++ throughout strings ms

-- a string
unfoldable pub itself : ℕ → List ℕ
itself k = k ∷ []

-- "a field name of these objects"
unfoldable pub names_of : List ℕ → ℕ → List ℕ
names_of s at = throughout (λ m. itself m.name) (members s at)

-- "a kept `format`"
unfoldable pub kept_in : Option Datatype → Once → List ℕ
kept_in None f = []
kept_in (Some d) f = elim (is_kept d) [ true ↦ in_field itself f | false ↦ [] ]

-- of the property at k
unfoldable pub property_strings : List ℕ → ℕ → List ℕ
property_strings s k =
    names_of s k ++
    (in_field itself (field decoded s k datatype) ++
    kept_in (datatype_in decoded s (field decoded s k datatype)) (field decoded s k format))

-- the object by ID at k: each ID, and those of what it names
unfoldable pub entry_strings : (ℕ → List ℕ) → List ℕ → ℕ → List ℕ
entry_strings strings s k = throughout (λ m. m.name ∷ strings m.value) (members s k)

-- of the node at k
unfoldable pub node_strings : List ℕ → ℕ → List ℕ
node_strings s k = names_of s k ++ in_field (entry_strings (property_strings s) s) (field decoded s k properties)

-- "an ID in `children`": the array at k
unfoldable pub element_strings : List ℕ → ℕ → List ℕ
element_strings s k = throughout (λ m. itself m.value) (elements s k)

-- of the device at `at`: "the strings `homie`, `datatype`, `root`, `parent`, a kept `format`, or an ID in `children`"
unfoldable pub device_strings : List ℕ → ℕ → List ℕ
device_strings s at =
    names_of s at ++
    (in_field itself (field decoded s at homie) ++
    (in_field (element_strings s) (field decoded s at children) ++
    (in_field itself (field decoded s at root) ++
    (in_field itself (field decoded s at parent) ++
    in_field (entry_strings (node_strings s) s) (field decoded s at nodes)))))

unfoldable pub strings : List ℕ → List ℕ
strings s = device_strings s (ws s 0)

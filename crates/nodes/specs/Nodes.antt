-- The nodes of a description (paper 01, "The description"; paper 02, K4): their faults, and the properties that they declare.
use Rattle.std.specs.Prelude.{ℕ, List, [], ◌∷◌, ◌++◌, Bool, true, false, drop, None, Option, Some}
use Rattle.json_text.specs.Members.{Member}
use Rattle.faults.specs.declared.Fault.{Fault}
use Rattle.faults.specs.Faults.{other_rule}
use Rattle.fields.specs.Values.{is_object, members}
use Rattle.fields.specs.Fields.{field, members_in, of_kind, among, field_faults, name_faults, comes_first, entry_faults, decoded_faults}
use Rattle.fields.specs.declared.Kind.TheVariants.{Text, Object}
use Rattle.fields.specs.declared.Owner.TheVariants as owner
use Rattle.properties.specs.Property.{Property, property_faults, property_at}
use Rattle.properties.specs.Entries.{properties_most}
use Rattle.nodes.specs.Names.{name, type, properties}

-- every member of the object that a field holds
unfoldable pub each : (ℕ → Member → List Fault) → List ℕ → Option ℕ → List Fault
each faults s None = []
each faults s (Some k) = among (faults k) (members s k)

-- a member of `properties`, the object at `at`
unfoldable pub property_member : List ℕ → ℕ → Member → List Fault
property_member s at m = entry_faults s at (property_faults s m.value) m

-- "A node: `name`, `type` strings, `properties` object by ID.": the faults of the fields of the object at k
unfoldable pub node_field_faults : List ℕ → ℕ → List Fault
node_field_faults s k =
    name_faults owner.Node s k ++
    (field_faults Text s (field s k name) ++
    (field_faults Text s (field s k type) ++
    (field_faults Object s (field s k properties) ++
    each (property_member s) s (field s k properties))))

-- the faults of the value at k
unfoldable pub node_faults : List ℕ → ℕ → List Fault
node_faults s k = of_kind (is_object s k) k (node_field_faults s k)

-- a member of `nodes`, the object at `at`
unfoldable pub node_member : List ℕ → ℕ → Member → List Fault
node_member s at m = entry_faults s at (node_faults s m.value) m

-- the members of `properties` of the node at k; those of a repeated node are not looked at
unfoldable pub named_by : List ℕ → Bool → ℕ → List Member
named_by s true k = members_in s (field s k properties)
named_by s false k = []

-- those of these nodes, members of the object at `at`, in document order
unfoldable pub named_in : List ℕ → ℕ → List Member → List Member
named_in s at [] = []
named_in s at (n ∷ ns) = named_by s (comes_first s at n) n.value ++ named_in s at ns

-- "the 25th property's ID for too many", the string at k; with half a surrogate pair "no other rule is applied to that string"
unfoldable pub too_many_at : List ℕ → ℕ → List Fault
too_many_at s k = decoded_faults s k (λ t. other_rule k ∷ [])

-- "At most 24 properties in all.": the 25th, and each one past it, whatever its value
unfoldable pub too_many : List ℕ → List Member → List Fault
too_many s ms = among (λ m. too_many_at s m.name) (drop properties_most ms)

-- the nodes in the object that a field holds
unfoldable pub nodes_faults : List ℕ → Option ℕ → List Fault
nodes_faults s None = []
nodes_faults s (Some k) = among (node_member s k) (members s k) ++ too_many s (named_in s k (members s k))

-- the properties that these members declare, of the node whose ID is the string at `node`
unfoldable pub properties_among : List ℕ → ℕ → List Member → List Property
properties_among s node [] = []
properties_among s node (m ∷ ms) = property_at s node m.name m.value ∷ properties_among s node ms

-- the properties of these nodes, in the text's order
unfoldable pub properties_of : List ℕ → List Member → List Property
properties_of s [] = []
properties_of s (n ∷ ns) = properties_among s n.name (members_in s (field s n.value properties)) ++ properties_of s ns

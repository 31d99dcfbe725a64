-- What this crate promises beyond its contracts.
use Rattle.std.specs.Prelude.{Option}
use Prim.Native.Nat.{ℕ, ◌≤◌}
use mathlib.Core.Path.{◌≡◌}
use mathlib.Core.List.{List, []}
use lib.ListN.{length}
use Rattle.fields.specs.Fields.{members_in}
use Rattle.properties.specs.Property.{Property}
use Rattle.properties.specs.Entries.{properties_most}
use Rattle.properties.specs.Valid.{Valid, In, Apart}
use Rattle.nodes.specs.Nodes.{nodes_faults, properties_of}
use Rattle.nodes.proofs.Valid.{in-nodes}
use Rattle.nodes.proofs.Apart.{nodes-apart, nodes-few}

-- each property of nodes without fault is valid
pub valid : (s : List ℕ) (f : Option ℕ) → nodes_faults s f ≡ [] → (p : Property) → In p (properties_of s (members_in s f)) → Valid p
valid s f h p i = in-nodes s f h i

-- "No .. ID twice in its object": no two of them have the same two IDs
pub apart : (s : List ℕ) (f : Option ℕ) → nodes_faults s f ≡ [] → Apart (properties_of s (members_in s f))
apart = nodes-apart

-- "At most 24 properties in all."
pub few : (s : List ℕ) (f : Option ℕ) → nodes_faults s f ≡ [] → length (properties_of s (members_in s f)) ≤ properties_most
few = nodes-few

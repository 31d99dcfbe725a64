-- The properties of nodes without fault are valid.
use Rattle.std.specs.Prelude.{None, Option, Some}
use Prim.Native.Nat.{ℕ}
use mathlib.Core.Path.{◌≡◌}
use mathlib.Core.Logic.{◌⊎◌, inl, inr}
use mathlib.Core.List.{List, [], ◌∷◌, ◌++◌}
use mathlib.Core.Bool.{true}
use Rattle.text.specs.Ids.{is_id}
use Rattle.text.proofs.Bytes.{both}
use Rattle.json_text.specs.Members.{Member}
use Rattle.faults.proofs.Laws.{both-none}
use Rattle.fields.specs.Values.{string_bytes, name_of, is_object, members}
use Rattle.fields.specs.Fields.{field, members_in, among, of_kind, field_faults, name_faults}
use Rattle.fields.specs.declared.Kind.TheVariants.{Text, Object}
use Rattle.fields.specs.declared.Owner.TheVariants as owner
use Rattle.fields.proofs.Names.{Entry, entry, among_first, among-rest}
use Rattle.properties.specs.Property.{Property, property_faults}
use Rattle.properties.specs.Valid.{Valid, In, here, later}
use Rattle.properties.proofs.Lists.{in-none, in-append}
use Rattle.properties.proofs.Theorems.{valid}
use Rattle.nodes.specs.Names.{name, type, properties}
use Rattle.nodes.specs.Nodes.{property_member, each, node_field_faults, node_faults, node_member, nodes_faults, named_in, too_many, properties_among, properties_of}
use Rattle.nodes.proofs.Nodes.{no_field}

module _ (s : List ℕ) where
  -- ---- what a member without fault is

  pub property-entry : (at : ℕ) (m : Member) → property_member s at m ≡ [] → Entry s at (property_faults s m.value) m
  unfolding property_member
  property-entry at m h = entry s at (property_faults s m.value) m h

  pub node-entry : (at : ℕ) (m : Member) → node_member s at m ≡ [] → Entry s at (node_faults s m.value) m
  unfolding node_member
  node-entry at m h = entry s at (node_faults s m.value) m h

  -- a node without fault: neither have its properties one
  pub node-properties : (k : ℕ) → node_faults s k ≡ [] → each (property_member s) s (field s k properties) ≡ []
  unfolding node_faults node_field_faults of_kind each
  node-properties k h = both (is_object s k)
      (λ e. let f = rw e at h in
      (both-none (field_faults Object s (field s k properties)) (each (property_member s) s (field s k properties))
      (both-none (field_faults Text s (field s k type)) (field_faults Object s (field s k properties) ++ each (property_member s) s (field s k properties))
      (both-none (field_faults Text s (field s k name)) (field_faults Text s (field s k type) ++ (field_faults Object s (field s k properties) ++ each (property_member s) s (field s k properties)))
      (both-none (name_faults owner.Node s k) (field_faults Text s (field s k name) ++ (field_faults Text s (field s k type) ++ (field_faults Object s (field s k properties) ++ each (property_member s) s (field s k properties)))) f).1).1).1).1)
      (λ e. rw (no_field s k properties e))

  -- ---- each property is valid

  module _ {p : Property} where
    among-valid : (node at : ℕ) (ms : List Member) → is_id (string_bytes s node) ≡ true → among (property_member s at) ms ≡ [] → In p (properties_among s node ms) → Valid p
    unfolding properties_among name_of
    among-valid node at [] n h i = in-none i
    among-valid node at (m ∷ ms) n h (here e) =
        let k = property-entry at m (among_first (property_member s at) m ms h) in
        rw e (valid s node m.name m.value n k.id k.valid)
    among-valid node at (m ∷ ms) n h (later i) = among-valid node at ms n (among-rest (property_member s at) m ms h) i

    in-node : (node : ℕ) (f : Option ℕ) → is_id (string_bytes s node) ≡ true → each (property_member s) s f ≡ [] → In p (properties_among s node (members_in s f)) → Valid p
    unfolding each members_in properties_among
    in-node node None n h i = in-none i
    in-node node (Some k) n h i = among-valid node k (members s k) n h i

    of-nodes : (at : ℕ) (ns : List Member) → among (node_member s at) ns ≡ [] → In p (properties_of s ns) → Valid p
    unfolding properties_of name_of
    of-nodes at [] h i = in-none i
    of-nodes at (m ∷ ns) h i = go (in-append (properties_among s m.name (members_in s (field s m.value properties))) (properties_of s ns) i) (of-nodes at ns (among-rest (node_member s at) m ns h)) (node-entry at m (among_first (node_member s at) m ns h))
      where
        go : In p (properties_among s m.name (members_in s (field s m.value properties))) ⊎ In p (properties_of s ns) → (In p (properties_of s ns) → Valid p) → Entry s at (node_faults s m.value) m → Valid p
        go (inl j) f k = in-node m.name (field s m.value properties) k.id (node-properties m.value k.valid) j
        go (inr j) f k = f j

    pub in-nodes : (f : Option ℕ) → nodes_faults s f ≡ [] → In p (properties_of s (members_in s f)) → Valid p
    unfolding nodes_faults members_in properties_of
    in-nodes None h i = in-none i
    in-nodes (Some k) h i = of-nodes k (members s k) (both-none (among (node_member s k) (members s k)) (too_many s (named_in s k (members s k))) h).0 i

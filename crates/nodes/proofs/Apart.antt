-- No two properties of nodes without fault have the same two IDs, and there are at most 24.
use Rattle.std.specs.Prelude.{None, Option, Some}
use Prim.Native.Nat.{ℕ, zero, suc, ◌+◌, ◌≤◌}
use native.Mathlib.Omega.{arith}
use mathlib.Core.Path.{◌≡◌, refl, sym, ap, ◌∙◌}
use mathlib.Core.Logic.{◌⊎◌, inl, inr}
use mathlib.Core.List.{List, [], ◌∷◌}
use mathlib.Core.Bool.{true}
use lib.ListN.{length, drop, length-append}
use Rattle.json_text.specs.Members.{Member}
use Rattle.faults.proofs.Laws.{both-none}
use Rattle.fields.specs.Values.{string_bytes, members, name_of}
use Rattle.fields.specs.Fields.{field, members_in, among, comes_first}
use Rattle.fields.proofs.Names as names
use Rattle.fields.proofs.Names.{Unnamed, unnamed-more, Unlike, Firsts, firsts_more, firsts, unlike, among_first, among-rest}
use Rattle.properties.specs.Property.{Property, property_faults, property_at}
use Rattle.properties.specs.Valid.{In, here, later, Apart, none, more}
use Rattle.properties.specs.Entries.{properties_most}
use Rattle.properties.proofs.Lists.{in-none, in-append}
use Rattle.properties.proofs.Order.{apart-append}
use Rattle.nodes.specs.Names.{properties}
use Rattle.nodes.specs.Nodes.{property_member, each, node_faults, node_member, named_by, named_in, too_many_at, too_many, nodes_faults, properties_among, properties_of}
use Rattle.nodes.proofs.Nodes.{too_many-one}
use Rattle.nodes.proofs.Valid.{node-entry, node-properties}

pub no_more : (s : List ℕ) (d : ℕ) (ms : List Member) → among (λ m. too_many_at s m.name) (drop d ms) ≡ [] → length ms ≤ d
unfolding among
no_more s zero [] h = omega arith
no_more s (suc d) [] h = omega arith
no_more s zero (m ∷ ms) h = absurd (too_many-one s m.name (both-none (too_many_at s m.name) _ h).0)
no_more s (suc d) (m ∷ ms) h = let k = no_more s d ms h in omega (arith, k)

module _ (s : List ℕ) where
  property_firsts : (at : ℕ) (ms : List Member) → among (property_member s at) ms ≡ [] → Firsts s at ms
  unfolding property_member
  property_firsts at ms h = firsts s at (λ m. property_faults s m.value) ms h

  node_firsts : (at : ℕ) (ms : List Member) → among (node_member s at) ms ≡ [] → Firsts s at ms
  unfolding node_member
  node_firsts at ms h = firsts s at (λ m. node_faults s m.value) ms h

  -- ---- one node's properties

  module _ (node : ℕ) where
    among-node : {q : Property} (ms : List Member) → In q (properties_among s node ms) → q.node ≡ string_bytes s node
    unfolding properties_among property_at
    among-node [] i = in-none i
    among-node (m ∷ ms) (here e) = ap (λ (p : Property). p.node) e
    among-node (m ∷ ms) (later i) = among-node ms i

    among-id : {q : Property} (name : List ℕ) (ms : List Member) → Unnamed s name ms → In q (properties_among s node ms) → q.id ≡ name → ⊥
    unfolding properties_among property_at name_of
    among-id name [] u i = in-none i
    among-id name (m ∷ ms) (unnamed-more n u) (here e) = λ k. n (sym (ap (λ (p : Property). p.id) e) ∙ k)
    among-id name (m ∷ ms) (unnamed-more n u) (later i) = among-id name ms u i

    among-apart : (ms : List Member) → Unlike s ms → Apart (properties_among s node ms)
    unfolding properties_among property_at name_of
    among-apart [] u = none
    among-apart (m ∷ ms) (names.more h u) = more (λ q i n k. among-id (name_of s m) ms h i (sym k)) (among-apart ms u)

    node-apart : (f : Option ℕ) → each (property_member s) s f ≡ [] → Apart (properties_among s node (members_in s f))
    unfolding each members_in properties_among
    node-apart None h = none
    node-apart (Some k) h = among-apart (members s k) (unlike s k (property_firsts k (members s k) h))

  -- ---- all nodes'

  of_node : {q : Property} (name : List ℕ) (ns : List Member) → Unnamed s name ns → In q (properties_of s ns) → q.node ≡ name → ⊥
  unfolding properties_of name_of
  of_node name [] u i = in-none i
  of_node {q} name (m ∷ ns) (unnamed-more n u) i = go (in-append (properties_among s m.name (members_in s (field s m.value properties))) (properties_of s ns) i) (of_node name ns u)
    where
      go : In q (properties_among s m.name (members_in s (field s m.value properties))) ⊎ In q (properties_of s ns) → (In q (properties_of s ns) → q.node ≡ name → ⊥) → q.node ≡ name → ⊥
      go (inl j) f = λ k. n (sym (among-node m.name (members_in s (field s m.value properties)) j) ∙ k)
      go (inr j) f = f j

  of-apart : (at : ℕ) (ns : List Member) → Unlike s ns → among (node_member s at) ns ≡ [] → Apart (properties_of s ns)
  unfolding properties_of name_of
  of-apart at [] u h = none
  of-apart at (m ∷ ns) (names.more k u) h =
      let f = field s m.value properties in
      apart-append (properties_among s m.name (members_in s f)) (properties_of s ns)
      (node-apart m.name f (node-properties s m.value (node-entry s at m (among_first (node_member s at) m ns h)).valid))
      (of-apart at ns u (among-rest (node_member s at) m ns h))
      (λ p q i j n x. of_node (name_of s m) ns k j (sym n ∙ among-node m.name (members_in s f) i))

  pub nodes-apart : (f : Option ℕ) → nodes_faults s f ≡ [] → Apart (properties_of s (members_in s f))
  unfolding nodes_faults members_in properties_of
  nodes-apart None h = none
  nodes-apart (Some k) h =
      let g = (both-none (among (node_member s k) (members s k)) (too_many s (named_in s k (members s k))) h).0 in
      of-apart k (members s k) (unlike s k (node_firsts k (members s k) g)) g

  -- ---- how many they are

  among-length : (node : ℕ) (ms : List Member) → length (properties_among s node ms) ≡ length ms
  unfolding properties_among
  among-length node [] = refl
  among-length node (m ∷ ms) = ap suc (among-length node ms)

  named_none : (at : ℕ) → 0 ≡ length (named_in s at [])
  unfolding named_in
  named_none at = refl

  named-first : (at : ℕ) (n : Member) (ns : List Member) → comes_first s at n ≡ true → length (named_in s at (n ∷ ns)) ≡ length (members_in s (field s n.value properties)) + length (named_in s at ns)
  unfolding named_in named_by
  named-first at n ns e = rw e (length-append (members_in s (field s n.value properties)) (named_in s at ns))

  named-length : (at : ℕ) (ns : List Member) → Firsts s at ns → length (properties_of s ns) ≡ length (named_in s at ns)
  unfolding properties_of
  named-length at [] f = named_none at
  named-length at (n ∷ ns) (firsts_more w e f) =
      let l = members_in s (field s n.value properties) in
      length-append (properties_among s n.name l) (properties_of s ns) ∙
      (ap (λ (k : ℕ). k + length (properties_of s ns)) (among-length n.name l) ∙
      (ap (λ (k : ℕ). length l + k) (named-length at ns f) ∙ sym (named-first at n ns e)))

  pub nodes-few : (f : Option ℕ) → nodes_faults s f ≡ [] → length (properties_of s (members_in s f)) ≤ properties_most
  unfolding nodes_faults members_in properties_of too_many
  nodes-few None h = omega arith
  nodes-few (Some k) h =
      let g = both-none (among (node_member s k) (members s k)) (too_many s (named_in s k (members s k))) h in
      rw (named-length k (members s k) (node_firsts k (members s k) g.0)) (no_more s properties_most (named_in s k (members s k)) g.1)

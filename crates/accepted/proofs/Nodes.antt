-- Properties and nodes: their faults against their tests.
use Rattle.std.specs.Prelude.{Option, None, Some}
use Prim.Native.Nat.{ℕ}
use mathlib.Core.Path.{◌≡◌, refl, sym}
use mathlib.Core.List.{List, [], ◌∷◌}
use mathlib.Core.Bool.{Bool, true, false, not, ◌||◌, false≢true}
use lib.ListN.{length, drop_of_length-le}
use lib.Dec.{leb}
use borrow.Author.Tests.{leb-true, le-leb}
use Rattle.text.specs.Bytes.{eq_bytes}
use Rattle.text.proofs.Bytes.{both}
use Rattle.json_text.specs.Members.{Member}
use Rattle.escapes.specs.Decode.{Decoded, whole, half, bytes_of}
use Rattle.faults.specs.Faults.{wrong_kind, missing, other_rule}
use Rattle.ranges.specs.Ranges.{is_some}
use Rattle.payload.specs.Datatypes.{datatype_named}
use Rattle.payload.specs.Formats.{is_format, when_missing}
use Rattle.payload.specs.declared.Datatype.{Datatype}
use Rattle.fields.specs.Values.{decoded_at, string_bytes, is_string_at, is_object, is_flag, members}
use Rattle.fields.specs.Fields as first
use Rattle.fields.specs.Fields.{of_kind, among, close_at}
use Rattle.fields.specs.Names.{known_names}
use Rattle.fields.specs.declared.Kind.TheVariants.{Text, Flag, Object}
use Rattle.fields.specs.declared.Owner.TheVariants as owner
use Rattle.fields.proofs.Names.{Firsts, firsts_more, firsts}
use Rattle.properties.specs.Names.{datatype, name, unit, format, settable, retained}
use Rattle.properties.specs.Property as property
use Rattle.properties.specs.Property.{is_kept, datatype_rule, given_faults, datatype_faults, format_faults, property_field_faults, property_faults}
use Rattle.nodes.proofs.Apart.{no_more}
use Rattle.nodes.specs.Names.{type, properties}
use Rattle.nodes.specs.Nodes as node
use Rattle.nodes.specs.Nodes.{node_field_faults, node_faults, named_by, named_in, too_many, nodes_faults}
use Rattle.accepted.specs.Once.{if_whole, decoded, read_at, passes, Once, Absent, One, Twice, holds, all, field, is_twice, optional, members_in}
use Rattle.accepted.specs.Rules.{type_named, datatype_in, fits_at, format_fits, property_field_rules, property_rules, id_rules, property_member, each, node_field_rules, node_rules, node_member, properties_of, nodes_rules}
use Rattle.accepted.proofs.Same.{Same, same_none, same_some, rule, parts_hold, first-all, each_holds, Agree, alone, last, then, then_where, join, kind_then}
use Rattle.accepted.proofs.Strings.{of-string}
use Rattle.accepted.proofs.Once.{Alike, absent, one, alike}
use Rattle.accepted.proofs.Fields.{text, flag, object, held, members_of, optional-once, single, done, none_twice, known, fields_agree}
use Rattle.accepted.proofs.Entries.{entries}

-- ---- a property

pub named-passes : (o : Option (List ℕ)) → is_some (type_named o) ≡ passes (λ t. is_some (datatype_named t)) o
unfolding type_named passes
named-passes None = refl
named-passes (Some t) = refl

module _ (s : List ℕ) where
  named-bytes : (d : Decoded) → type_named (if_whole d) ≡ datatype_named (bytes_of d)
  unfolding type_named if_whole bytes_of datatype_named eq_bytes
  named-bytes (whole t) = refl
  named-bytes (half p) = refl

  same-datatype : {f : Once} {g : Option ℕ} → Alike f g → datatype_in decoded s f ≡ property.datatype_in s g
  unfolding datatype_in property.datatype_in read_at decoded string_bytes decoded_at
  same-datatype absent = refl
  same-datatype (one k) = both (is_string_at s k)
      (λ q. rw (q, datatype_in, property.datatype_in) (named-bytes (decoded_at s k)))
      (λ q. rw (q, datatype_in, property.datatype_in))

  datatype-once : (f : Once) → is_some (datatype_in decoded s f) ≡ true → is_twice f ≡ false
  unfolding datatype_in is_twice
  datatype-once Absent e = refl
  datatype-once (One k) e = refl
  datatype-once Twice e = absurd (false≢true e)

  module _ (at : ℕ) where
    of-datatype : {f : Once} {g : Option ℕ} → Alike f g → Same (datatype_faults s at g) (is_some (datatype_in decoded s f))
    unfolding datatype_faults datatype_in datatype_rule of_kind
    of-datatype absent = same_some (missing (close_at s at)) []
    of-datatype (one k) = both (is_string_at s k)
        (λ e. rw (e, datatype_in, named-passes (read_at decoded s k)) (of-string s k (λ t. rule (is_some (datatype_named t)) (other_rule k))))
        (λ e. rw (e, datatype_in) (same_some (wrong_kind k) []))

    of-given : (kept : Bool) (d : Datatype) (k : ℕ) → Same (given_faults kept d s k) (not kept || passes (is_format d) (read_at decoded s k))
    unfolding given_faults property.format_rule
    of-given true d k = of-string s k (λ t. rule (is_format d t) (other_rule k))
    of-given false d k = same_none

    by-datatype : {f : Once} {g : Option ℕ} (d : Option Datatype) → Alike f g → Agree (format_faults s at d g) (optional (is_string_at s) f ∷ format_fits decoded s d f ∷ [])
    unfolding format_faults format_fits fits_at optional holds
    by-datatype None a = alone (held Text s (is_string_at s) (text s) a) (true ∷ []) refl
    by-datatype (Some d) absent = then same_none (last (rule (is_some (when_missing d)) (missing (close_at s at))))
    by-datatype (Some d) (one k) = kind_then k (is_string_at s k) (last (of-given (is_kept d) d k))

    of_format : {d : Once} {e : Option ℕ} → Alike d e → {f : Once} {g : Option ℕ} → Alike f g → Agree (format_faults s at (property.datatype_in s e) g) (optional (is_string_at s) f ∷ format_fits decoded s (datatype_in decoded s d) f ∷ [])
    of_format {d} {e} a {f} {g} b = rw (sym (same-datatype a)) (by-datatype (datatype_in decoded s d) b)

  of-property : (k : ℕ) → Agree (property_faults s k) (property_rules decoded s k)
  unfolding property_faults property_field_faults property_rules property_field_rules known_names
  of-property k = fields_agree owner.Property s k
      (λ t. let a = known owner.Property s k t in
      then (of-datatype k a.0)
      (then (held Text s (is_string_at s) (text s) a.1.0)
      (then (held Text s (is_string_at s) (text s) a.1.1.0)
      (join (of_format k a.0 a.1.1.1.0)
      (then (held Flag s (is_flag s) (flag s) a.1.1.1.1.0)
      (last (held Flag s (is_flag s) (flag s) a.1.1.1.1.1.0)))))))
      (λ e. let h = each_holds (property_field_rules decoded s k) e in none_twice owner.Property s k
      (single (datatype-once (field decoded s k datatype) h.0)
      (single (optional-once (is_string_at s) (field decoded s k name) h.1.0)
      (single (optional-once (is_string_at s) (field decoded s k unit) h.1.1.0)
      (single (optional-once (is_string_at s) (field decoded s k format) h.1.1.1.0)
      (single (optional-once (is_flag s) (field decoded s k settable) h.1.1.1.1.1.0)
      (single (optional-once (is_flag s) (field decoded s k retained) h.1.1.1.1.1.1.0) done)))))))

  -- ---- a node

  of-properties : {f : Once} {g : Option ℕ} → Alike f g → Same (node.each (node.property_member s) s g) (each (property_member decoded s) s f)
  unfolding node.each node.property_member each property_member
  of-properties absent = same_none
  of-properties (one k) = entries s k (λ m. property_faults s m.value) (λ m. property_rules decoded s m.value) (λ m. of-property m.value)

  of_node : (k : ℕ) → Agree (node_faults s k) (node_rules decoded s k)
  unfolding node_faults node_field_faults node_rules node_field_rules known_names
  of_node k = fields_agree owner.Node s k
      (λ t. let a = known owner.Node s k t in
      then (held Text s (is_string_at s) (text s) a.0)
      (then (held Text s (is_string_at s) (text s) a.1.0)
      (then (held Object s (is_object s) (object s) a.1.1.0)
      (last (of-properties a.1.1.0)))))
      (λ e. let h = each_holds (node_field_rules decoded s k) e in none_twice owner.Node s k
      (single (optional-once (is_string_at s) (field decoded s k name) h.0)
      (single (optional-once (is_string_at s) (field decoded s k type) h.1.0)
      (single (optional-once (is_object s) (field decoded s k properties) h.1.1.0) done))))

  -- ---- all nodes

  node-properties : (k : ℕ) → holds (node_rules decoded s k) ≡ true → first.members_in s (first.field s k properties) ≡ members_in s (field decoded s k properties)
  unfolding node_rules node_field_rules
  node-properties k e =
      let h = each_holds (node_rules decoded s k) e in
      sym (members_of s (alike s k properties (optional-once (is_object s) (field decoded s k properties) h.1.1.1.1.0)))

  -- the same properties are counted
  same-named : (at : ℕ) (ns : List Member) → Firsts s at ns → all (λ m. holds (node_member decoded s at m)) ns ≡ true → named_in s at ns ≡ properties_of decoded s ns
  unfolding named_in named_by properties_of node_member
  same-named at [] f h = refl
  same-named at (n ∷ ns) (firsts_more w e f) h =
      let q = first-all (λ m. holds (node_member decoded s at m)) n ns h in
      let p = parts_hold (id_rules decoded s at n) (node_rules decoded s n.value) q.0 in
      rw (e, node-properties n.value p.1, same-named at ns f q.1)

-- "At most 24 properties in all."
most : (s : List ℕ) (ms : List Member) → Same (too_many s ms) (leb (length ms) 24)
unfolding too_many among
most s ms = (λ h. le-leb (length ms) 24 (no_more s 24 ms h), λ h. rw (drop_of_length-le ms (leb-true (length ms) 24 h)))

module _ (s : List ℕ) where
  pub of-nodes : {f : Once} {g : Option ℕ} → Alike f g → Agree (nodes_faults s g) (nodes_rules decoded s f)
  unfolding nodes_faults nodes_rules node.node_member node_member each members_in properties_of holds
  of-nodes absent = alone same_none (leb 0 24 ∷ []) refl
  of-nodes (one k) =
      let a = entries s k (λ m. node_faults s m.value) (λ m. node_rules decoded s m.value) (λ m. of_node s m.value) in
      then_where a (λ e. last (rw (same-named s k (members s k) (firsts s k (λ m. node_faults s m.value) (members s k) e) (a.0 e)) (most s (properties_of decoded s (members s k)))))

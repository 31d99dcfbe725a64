-- Properties, nodes and the device: their tests with strings as they are sent, against those with decoded ones.
use Rattle.std.specs.Prelude.{Option, None, Some}
use Prim.Native.Nat.{ℕ}
use mathlib.Core.Path.{◌≡◌, refl, ap}
use mathlib.Core.List.{List, [], ◌∷◌, ◌++◌}
use mathlib.Core.Bool.{Bool, true, false, not, ◌||◌}
use lib.ListN.{length}
use lib.Dec.{leb}
use Rattle.text.specs.Ids.{is_id}
use Rattle.text.proofs.Bytes.{both}
use Rattle.json_text.specs.Bytes.{ws}
use Rattle.json_text.specs.Members.{Member}
use Rattle.ranges.specs.Ranges.{is_some}
use Rattle.payload.specs.Datatypes.{datatype_named}
use Rattle.payload.specs.Formats.{is_format, when_missing}
use Rattle.payload.specs.declared.Datatype.{Datatype}
use Rattle.fields.specs.Values.{is_string_at, is_object, members}
use Rattle.properties.specs.Names.{datatype, unit, format, settable, retained}
use Rattle.properties.specs.Property.{is_kept}
use Rattle.nodes.specs.Names.{properties}
use Rattle.description.specs.Names.{homie, version, nodes, name, type, children, root, parent, extensions}
use Rattle.description.specs.Description.{is_homie}
use Rattle.accepted.specs.Once.{as_sent, decoded, read_at, passes, Once, Absent, One, Twice, holds, all, field, is_twice, optional, members_in}
use Rattle.accepted.specs.Rules.{is_text, array_of, type_named, datatype_in, fits_at, format_fits, property_field_rules, property_rules, is_once, id_rules, property_member, each, node_field_rules, node_rules, node_member, properties_of, nodes_rules, other_rules, is_relative, parent_rules, device_field_rules, device_rules, rules}
use Rattle.accepted.specs.Strings.{in_field, throughout, itself, names_of, kept_in, property_strings, entry_strings, node_strings, element_strings, device_strings, strings}
use Rattle.accepted.proofs.Same.{first_holds, first-all}
use Rattle.accepted.proofs.Nodes.{named-passes}
use Rattle.accepted.proofs.Grows.{Plain, plain-none, plain-one, one_plain, plain-both, both-plain, Grows, GrowAll, alike, grow_skip, grow_where, grow_last, together, neither, grow, read_alike, string_grows, text_grows, all_grow, names_grow, ids_grow, optional_grows, required_grows, field_alike}

-- ---- a property

module _ (s : List ℕ) where
  -- the same datatype both ways
  datatype-alike : (f : Once) → Plain s (in_field itself f) → datatype_in as_sent s f ≡ datatype_in decoded s f
  unfolding datatype_in in_field itself
  datatype-alike Absent p = refl
  datatype-alike (One k) p = both (is_string_at s k)
      (λ e. rw (e, datatype_in) (ap type_named (read_alike s k (one_plain s k [] p).0)))
      (λ e. rw (e, datatype_in))
  datatype-alike Twice p = refl

  datatype_grows : (f : Once) → Grows s (is_some (datatype_in as_sent s f)) (is_some (datatype_in decoded s f)) (in_field itself f)
  unfolding datatype_in in_field
  datatype_grows Absent = alike false
  datatype_grows (One k) = both (is_string_at s k)
      (λ e. rw (e, datatype_in, named-passes (read_at as_sent s k), named-passes (read_at decoded s k)) (string_grows s k (λ t. is_some (datatype_named t))))
      (λ e. rw (e, datatype_in) (neither (itself k)))
  datatype_grows Twice = alike false

  given_grows : (kept : Bool) (test : List ℕ → Bool) (k : ℕ) → Grows s (not kept || passes test (read_at as_sent s k)) (not kept || passes test (read_at decoded s k)) (elim kept [ true ↦ itself k | false ↦ [] ])
  given_grows true test k = string_grows s k test
  given_grows false test k = alike true

  no-format : (kept t : Bool) → Grows s t t (elim kept [ true ↦ [] | false ↦ [] ])
  no-format true t = alike t
  no-format false t = alike t

  format_grows : (d : Option Datatype) (f : Once) → Grows s (format_fits as_sent s d f) (format_fits decoded s d f) (kept_in d f)
  unfolding format_fits fits_at kept_in in_field
  format_grows None f = alike true
  format_grows (Some d) Absent = no-format (is_kept d) (is_some (when_missing d))
  format_grows (Some d) (One k) = given_grows (is_kept d) (is_format d) k
  format_grows (Some d) Twice = no-format (is_kept d) true

  property_grows : (k : ℕ) → GrowAll s (property_rules as_sent s k) (property_rules decoded s k) (property_strings s k)
  unfolding property_rules property_field_rules property_strings
  property_grows k = grow_skip (is_object s k) (grow_where (names_grow s k) (λ p. rw (
    field_alike s k p datatype,
    field_alike s k p name,
    field_alike s k p unit,
    field_alike s k p format,
    field_alike s k p settable,
    field_alike s k p retained,
  )
      (grow_where (datatype_grows (field decoded s k datatype)) (λ q.
      rw (datatype-alike (field decoded s k datatype) q)
      (grow_skip _ (grow_skip _ (grow_skip _ (grow_last (format_grows (datatype_in decoded s (field decoded s k datatype)) (field decoded s k format)) _ _ (λ r. refl)))))))))

-- ---- the members of an object by ID

module _ (s : List ℕ) (at : ℕ) where
  once-alike : Plain s (names_of s at) → (o : Option (List ℕ)) → passes (is_once as_sent s at) o ≡ passes (is_once decoded s at) o
  unfolding passes is_once
  once-alike p None = refl
  once-alike p (Some t) = ap (λ (f : Once). not (is_twice f)) (field_alike s at p t)

  module _ (sent new : Member → List Bool) (strings : ℕ → List ℕ) (a : (m : Member) → GrowAll s (sent m) (new m) (strings m.value)) where
    abbrev test_sent : Member → Bool
    test_sent m = holds (id_rules as_sent s at m ++ sent m)

    abbrev test_new : Member → Bool
    test_new m = holds (id_rules decoded s at m ++ new m)

    abbrev strings_of : Member → List ℕ
    strings_of m = m.name ∷ strings m.value

    entry_grows : Plain s (names_of s at) → (m : Member) → GrowAll s (id_rules as_sent s at m ++ sent m) (id_rules decoded s at m ++ new m) (strings_of m)
    unfolding id_rules itself
    entry_grows p m = grow_where (string_grows s m.name is_id) (λ q.
        rw (once-alike p (read_at as_sent s m.name), read_alike s m.name (one_plain s m.name [] q).0) (grow_skip _ (a m)))

    -- the names have no backslash
    sent-names : (ms : List Member) → all test_sent ms ≡ true → Plain s (throughout (λ m. itself m.name) ms)
    unfolding throughout id_rules
    sent-names [] h = plain-none s
    sent-names (m ∷ ms) h =
        let q = first-all test_sent m ms h in
        let p = (string_grows s m.name is_id).plain (first_holds _ _ q.0).0 in
        plain-both s (itself m.name) (throughout (λ m. itself m.name) ms) p (sent-names ms q.1)

    new-names : (ms : List Member) → Plain s (throughout strings_of ms) → Plain s (throughout (λ m. itself m.name) ms)
    unfolding throughout itself
    new-names [] h = plain-none s
    new-names (m ∷ ms) h =
        let q = one_plain s m.name (strings m.value ++ throughout strings_of ms) h in
        plain-one s m.name (throughout (λ m. itself m.name) ms) q.0 (new-names ms (both-plain s (strings m.value) (throughout strings_of ms) q.1).1)

    all-entries : Plain s (names_of s at) → Grows s (all test_sent (members s at)) (all test_new (members s at)) (throughout strings_of (members s at))
    all-entries p = all_grow s test_sent test_new strings_of (λ m. together (entry_grows p m)) (members s at)

    entries_grow : Grows s (all test_sent (members s at)) (all test_new (members s at)) (entry_strings strings s at)
    unfolding entry_strings names_of
    entries_grow = record {
      stays = λ e. (all-entries (sent-names (members s at) e)).stays e;
      plain = λ e. (all-entries (sent-names (members s at) e)).plain e;
      back = λ e p. (all-entries (new-names (members s at) p)).back e p;
    }

-- ---- nodes

module _ (s : List ℕ) where
  properties_grow : (f : Once) → Grows s (each (property_member as_sent s) s f) (each (property_member decoded s) s f) (in_field (entry_strings (property_strings s) s) f)
  unfolding each property_member in_field
  properties_grow Absent = alike true
  properties_grow (One k) = entries_grow s k (λ m. property_rules as_sent s m.value) (λ m. property_rules decoded s m.value) (property_strings s) (λ m. property_grows s m.value)
  properties_grow Twice = alike true

  node_grows : (k : ℕ) → GrowAll s (node_rules as_sent s k) (node_rules decoded s k) (node_strings s k)
  unfolding node_rules node_field_rules node_strings
  node_grows k = grow_skip (is_object s k) (grow_where (names_grow s k) (λ p. rw (
    field_alike s k p name,
    field_alike s k p type,
    field_alike s k p properties,
  )
      (grow_skip _ (grow_skip _ (grow_skip _ (grow_last (properties_grow (field decoded s k properties)) [] [] (λ r. refl)))))))

  each-node : (f : Once) → Grows s (each (node_member as_sent s) s f) (each (node_member decoded s) s f) (in_field (entry_strings (node_strings s) s) f)
  unfolding each node_member in_field
  each-node Absent = alike true
  each-node (One k) = entries_grow s k (λ m. node_rules as_sent s m.value) (λ m. node_rules decoded s m.value) (node_strings s) (λ m. node_grows m.value)
  each-node Twice = alike true

  -- the same properties are counted
  counted : (ns : List Member) → Plain s (throughout (λ m. m.name ∷ node_strings s m.value) ns) → properties_of as_sent s ns ≡ properties_of decoded s ns
  unfolding properties_of throughout node_strings
  counted [] p = refl
  counted (n ∷ ns) p =
      let here = node_strings s n.value in
      let rest = throughout (λ m. m.name ∷ node_strings s m.value) ns in
      let q = both-plain s here rest (one_plain s n.name (here ++ rest) p).1 in
      let names = (both-plain s (names_of s n.value) (in_field (entry_strings (property_strings s) s) (field decoded s n.value properties)) q.0).0 in
      rw (field_alike s n.value names properties, counted ns q.1)

  counted_in : (f : Once) → Plain s (in_field (entry_strings (node_strings s) s) f) → properties_of as_sent s (members_in s f) ≡ properties_of decoded s (members_in s f)
  unfolding in_field entry_strings members_in properties_of
  counted_in Absent p = refl
  counted_in (One k) p = counted (members s k) p
  counted_in Twice p = refl

  nodes_grow : (f : Once) → GrowAll s (nodes_rules as_sent s f) (nodes_rules decoded s f) (in_field (entry_strings (node_strings s) s) f)
  unfolding nodes_rules
  nodes_grow f = grow_last (each-node f) _ _ (λ p. ap (λ (ms : List Member). leb (length ms) 24 ∷ []) (counted_in f p))

-- ---- the device

module _ (own s : List ℕ) where
  relative_grows : (f : Once) → Grows s (optional (is_text (is_relative own) as_sent s) f) (optional (is_text (is_relative own) decoded s) f) (in_field itself f)
  relative_grows f = optional_grows s (is_text (is_relative own) as_sent s) (is_text (is_relative own) decoded s) itself (λ k. text_grows s k (is_relative own)) f

  device_grows : (at : ℕ) → GrowAll s (device_rules own as_sent s at) (device_rules own decoded s at) (device_strings s at)
  unfolding device_rules device_field_rules other_rules parent_rules device_strings
  device_grows at = grow_skip (is_object s at) (grow_where (names_grow s at) (λ p. rw (
    field_alike s at p homie,
    field_alike s at p version,
    field_alike s at p nodes,
    field_alike s at p name,
    field_alike s at p type,
    field_alike s at p children,
    field_alike s at p root,
    field_alike s at p parent,
    field_alike s at p extensions,
  )
      (grow (required_grows s (is_text is_homie as_sent s) (is_text is_homie decoded s) itself (λ k. text_grows s k is_homie) (field decoded s at homie))
      (grow_skip _ (grow_skip _ (grow_skip _ (grow_skip _
      (grow (optional_grows s (array_of (is_text is_id as_sent s) s) (array_of (is_text is_id decoded s) s) (element_strings s) (ids_grow s is_id) (field decoded s at children))
      (grow_skip _
      (grow (relative_grows (field decoded s at root))
      (grow (relative_grows (field decoded s at parent))
      (grow_skip _ (nodes_grow s (field decoded s at nodes))))))))))))))

  pub all_grows : GrowAll s (rules as_sent own s) (rules decoded own s) (strings s)
  unfolding rules strings
  all_grows = grow_skip _ (grow_skip _ (grow_skip _ (device_grows (ws s 0))))

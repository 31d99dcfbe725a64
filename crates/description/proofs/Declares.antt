-- What a description without fault shows of all that it declares.
use Rattle.std.specs.Prelude.{None, Some, Option}
use Prim.Native.Nat.{ℕ, ◌≤◌}
use native.Mathlib.Omega.{arith}
use mathlib.Core.Path.{◌≡◌, refl, sym, ap, ◌∙◌}
use mathlib.Core.Logic.{◌⊎◌, inl, inr}
use mathlib.Core.List.{List, [], ◌∷◌, ◌++◌}
use mathlib.Core.Bool.{true, not, false≢true}
use lib.ListN.{length}
use borrow.Author.Tests.{not-true}
use Rattle.answer.specs.Answer.{gives}
use Rattle.text.specs.Bytes.{eq_bytes}
use Rattle.text.specs.Ids.{is_id}
use Rattle.text.proofs.Bytes.{eq_bytes-false}
use Rattle.json_text.specs.Bytes.{ws}
use Rattle.json_grammar.specs.Place.{bad_places}
use Rattle.faults.specs.declared.Fault.{Fault}
use Rattle.faults.specs.Faults.{other_rule, ◌otherwise◌}
use Rattle.faults.proofs.Laws.{at-nothing, both-none, rule-kept, least-nothing}
use Rattle.fields.specs.Values.{string_bytes, is_string_at, is_object}
use Rattle.fields.specs.Fields.{field, is_present, text_in, name_faults, decoded_faults}
use Rattle.fields.specs.declared.Owner.TheVariants as owner
use Rattle.properties.specs.Property.{Property, insert_all}
use Rattle.properties.specs.Valid.{Valid, In, Arranged}
use Rattle.properties.proofs.Rules.{kind-none}
use Rattle.properties.proofs.Lists.{in-none, put_in}
use Rattle.properties.proofs.Theorems.{in_order}
use Rattle.nodes.specs.Nodes.{nodes_faults}
use Rattle.nodes.proofs.Theorems as of_nodes
use Rattle.description.specs.Names.{homie, version, nodes, root, parent}
use Rattle.description.specs.Description.{homie_faults, version_faults, other_faults, relative_faults, root_faults, parent_rule, parent_faults, declared, device_field_faults, device_faults, told, Described, described_in, describe}
use Rattle.fields.proofs.Decoded.{no-faults}
use Rattle.description.specs.Declares.{Other, Declares}
use Rattle.description.proofs.Whole.{told-nothing, told_at, wrong-told, right-told}

-- ---- a field that holds another device's ID

module _ (own s : List ℕ) where
  other_at : (k : ℕ) (id : List ℕ) → relative_faults own k id ≡ [] → Other own id
  unfolding relative_faults
  other_at k id h =
      let q = both-none (is_id id otherwise other_rule k) (not (eq_bytes id own) otherwise other_rule k) h in
      record {
        is = rule-kept (is_id id) (other_rule k) q.0;
        other = eq_bytes-false id own (not-true _ (rule-kept (not (eq_bytes id own)) (other_rule k) q.1));
      }

  root-other : (f : Option ℕ) (id : List ℕ) → root_faults own s f ≡ [] → text_in s f ≡ Some id → Other own id
  unfolding root_faults text_in
  root-other None id h e = let z : ◌≡◌ {A = ℕ} 0 1 = cc in absurd (omega arith)
  root-other (Some k) id h e =
      let t : string_bytes s k ≡ id = cc in
      rw (sym t) (other_at k (string_bytes s k) (no-faults s k (relative_faults own k) (kind-none (is_string_at s k) k (decoded_faults s k (relative_faults own k)) h).1).1)

  module _ (r : Option ℕ) where
    parent-rules : (k : ℕ) → parent_faults own s r (Some k) ≡ [] → (relative_faults own k (string_bytes s k) ≡ []) × (is_present r ≡ true)
    unfolding parent_faults parent_rule
    parent-rules k h =
        let rules = parent_rule own (is_present r) k in
        let w = (no-faults s k rules (kind-none (is_string_at s k) k (decoded_faults s k rules) h).1).1 in
        let q = both-none (relative_faults own k (string_bytes s k)) (is_present r otherwise other_rule k) w in
        (q.0, rule-kept (is_present r) (other_rule k) q.1)

    parent-other : (f : Option ℕ) (id : List ℕ) → parent_faults own s r f ≡ [] → text_in s f ≡ Some id → Other own id
    unfolding text_in
    parent-other None id h e = let z : ◌≡◌ {A = ℕ} 0 1 = cc in absurd (omega arith)
    parent-other (Some k) id h e = let t : string_bytes s k ≡ id = cc in rw (sym t) (other_at k (string_bytes s k) (parent-rules k h).0)

  no-parent : (r f : Option ℕ) → parent_faults own s r f ≡ [] → text_in s r ≡ None → text_in s f ≡ None
  unfolding text_in is_present
  no-parent r None h e = refl
  no-parent None (Some k) h e = absurd (false≢true (parent-rules None k h).1)
  no-parent (Some j) (Some k) h e = let z : ◌≡◌ {A = ℕ} 0 1 = cc in absurd (omega arith)

-- ---- the fields, one by one

module _ (own s : List ℕ) (at : ℕ) (h : device_faults own s at ≡ []) where
  fields-none : device_field_faults own s at ≡ []
  unfolding device_faults
  fields-none = (kind-none (is_object s at) at (device_field_faults own s at) h).1

  related : root_faults own s (field s at root) ++ (parent_faults own s (field s at root) (field s at parent) ++ nodes_faults s (field s at nodes)) ≡ []
  unfolding device_field_faults
  related =
      let l = root_faults own s (field s at root) ++ (parent_faults own s (field s at root) (field s at parent) ++ nodes_faults s (field s at nodes)) in
      (both-none (other_faults s at) l
      (both-none (version_faults s at (field s at version)) (other_faults s at ++ l)
      (both-none (homie_faults s at (field s at homie)) (version_faults s at (field s at version) ++ (other_faults s at ++ l))
      (both-none (name_faults owner.Device s at) (homie_faults s at (field s at homie) ++ (version_faults s at (field s at version) ++ (other_faults s at ++ l))) fields-none).1).1).1).1

  root_none : root_faults own s (field s at root) ≡ []
  root_none = (both-none (root_faults own s (field s at root)) (parent_faults own s (field s at root) (field s at parent) ++ nodes_faults s (field s at nodes)) related).0

  behind-root : parent_faults own s (field s at root) (field s at parent) ++ nodes_faults s (field s at nodes) ≡ []
  behind-root = (both-none (root_faults own s (field s at root)) (parent_faults own s (field s at root) (field s at parent) ++ nodes_faults s (field s at nodes)) related).1

  parent-none : parent_faults own s (field s at root) (field s at parent) ≡ []
  parent-none = (both-none (parent_faults own s (field s at root) (field s at parent)) (nodes_faults s (field s at nodes)) behind-root).0

  nodes-none : nodes_faults s (field s at nodes) ≡ []
  nodes-none = (both-none (parent_faults own s (field s at root) (field s at parent)) (nodes_faults s (field s at nodes)) behind-root).1

  all_valid : (p : Property) → In p (insert_all (declared s at) []) → Valid p
  unfolding declared
  all_valid p i = go (put_in (declared s at) [] i)
    where
      go : In p (declared s at) ⊎ In p [] → Valid p
      go (inl j) = of_nodes.valid s (field s at nodes) nodes-none p j
      go (inr j) = in-none j

  pub in_place : Arranged (declared s at) (insert_all (declared s at) [])
  unfolding declared
  in_place = in_order (declared s at) (of_nodes.apart s (field s at nodes) nodes-none)

  few : length (declared s at) ≤ 24
  unfolding declared
  few = of_nodes.few s (field s at nodes) nodes-none

  pub declares_at : Declares own (described_in s at)
  unfolding described_in
  declares_at = record {
    root = λ id e. root-other own s (field s at root) id root_none e;
    parent = λ id e. parent-other own s (field s at root) (field s at parent) id parent-none e;
    needs = λ e. no-parent own s (field s at root) (field s at parent) parent-none e;
    valid = all_valid;
    few = omega (arith, few, in_place.long);
    ascending = in_place.ascending;
  }

-- ---- what is given has no fault

-- by cases of what is told, with its equation
by_cases {ℓ} : {X : Type ℓ} (t : Option Fault) → (t ≡ None → X) → ((f : Fault) → t ≡ Some f → X) → X
by_cases None f g = f refl
by_cases (Some x) f g = g x refl

module _ (own s : List ℕ) {x : Described} (e : describe own s ≡ gives x) where
  nothing-told : told own s ≡ None
  nothing-told = by_cases (told own s) (λ t. t) (λ f t. let y = told_at own s t in let z : ◌≡◌ {A = ℕ} 0 1 = cc in absurd (omega arith))

  no_place : bad_places s ≡ []
  no_place = go (bad_places s) refl
    where
      some-place : {p : ℕ} {ps : List ℕ} → p ∷ ps ≡ [] → ⊥
      some-place q = let z : ◌≡◌ {A = ℕ} 0 1 = cc in omega arith

      go : (ps : List ℕ) → bad_places s ≡ ps → bad_places s ≡ []
      go [] q = q
      go (p ∷ ps) q = absurd (at-nothing (sym (wrong-told own s (λ z. some-place (sym q ∙ z))) ∙ nothing-told))

  pub no-fault : device_faults own s (ws s 0) ≡ []
  no-fault = least-nothing (device_faults own s (ws s 0)) (sym (right-told own s no_place) ∙ nothing-told)

  pub given_is : described_in s (ws s 0) ≡ x
  given_is = let y = told-nothing own s nothing-told in cc

  pub declares : Declares own x
  declares = rw (sym given_is) (declares_at own s (ws s 0) no-fault)

  pub arranges : Arranged (declared s (ws s 0)) x.properties
  unfolding described_in
  arranges = rw (sym (ap (λ (y : Described). y.properties) given_is)) (in_place own s (ws s 0) no-fault)

-- What is told of a description: a place of at most 8,192, and a number from 21 to 25.
use Rattle.std.specs.Prelude.{Option, None, Some, Err, Ok, Result}
use Prim.Native.Nat.{ℕ, zero, suc, ◌+◌, ◌≤◌, ◌<◌}
use native.Mathlib.Omega.{arith}
use mathlib.Core.Path.{◌≡◌, refl, sym, ◌∙◌}
use mathlib.Core.List.{List, [], ◌∷◌, ◌++◌}
use mathlib.Core.Bool.{Bool, true, false}
use lib.ListN.{length, drop}
use lib.Dec.{eqb}
use Rattle.text.proofs.Bytes.{both}
use Rattle.json_text.specs.Bytes.{byte, ws}
use Rattle.json_text.specs.Value.{key_at, value_at}
use Rattle.json_text.specs.Members.{Member, next_at, item_at, element_at, member_at, list_from, members_at, elements_at}
use Rattle.json_text.specs.declared.Item.{Item}
use Rattle.json_grammar.specs.Place.{bad_places}
use Rattle.json_grammar.proofs.Stops.{ws_stops}
use Rattle.json_grammar.proofs.Ends.{Past, value-past, token-ends, begin-ends}
use Rattle.json_grammar.proofs.Smallest.{fault-min, none_wrong}
use Rattle.faults.specs.declared.Fault.{Fault}
use Rattle.faults.specs.declared.FaultKind.{FaultKind}
use Rattle.faults.specs.Faults.{missing, repeated, is_earlier, earlier, least, ◌otherwise◌, fault_number}
use Rattle.fields.specs.Values.{is_array, is_object, members, elements, decoded_at, is_named}
use Rattle.fields.specs.Fields.{one_more, field_in, field, members_in, of_kind, among, string_faults, unless_half, decoded_faults, id_rule, id_faults, array_faults, kind_faults, field_faults, close_at, comes_first, repeat_faults, name_faults_of, name_faults, entry_faults}
use Rattle.fields.proofs.Decoded.{half-inside}
use Rattle.escapes.specs.Decode.{Decoded, whole, half}
use Rattle.fields.specs.declared.Kind.{Kind}
use Rattle.fields.specs.declared.Kind.TheVariants.{Text, Flag, Object, Ids, Texts}
use Rattle.fields.specs.declared.Owner.{Owner}
use Rattle.payload.specs.declared.Datatype.{Datatype}
use Rattle.properties.specs.Property.{datatype_rule, datatype_faults, format_rule, given_faults, format_faults, property_field_faults, property_faults}
use Rattle.properties.specs.Entries.{properties_most}
use Rattle.nodes.specs.Nodes.{each, property_member, node_field_faults, node_faults, node_member, named_by, named_in, too_many_at, too_many, nodes_faults}
use Rattle.description.specs.Description.{homie_rule, homie_faults, version_faults, other_faults, relative_faults, root_faults, parent_rule, parent_faults, device_field_faults, device_faults, told}
use Rattle.description.proofs.Whole.{wrong-told, right-told}

-- ---- lists

-- every one of a list is such
data All {A : Type 0} (P : A → Type 0) : List A → Type 0 where
  all_none : All P []
  all_more : {x : A} {xs : List A} → P x → All P xs → All P (x ∷ xs)

module _ {A : Type 0} {P : A → Type 0} where
  -- the second constructor, its element found from what is to be proved
  cons : {x : A} {xs : List A} → P x → All P xs → All P (x ∷ xs)
  cons = all_more

  one : {x : A} → P x → All P (x ∷ [])
  one p = all_more p all_none

  append : {xs ys : List A} → All P xs → All P ys → All P (xs ++ ys)
  append all_none w = w
  append (all_more p v) w = all_more p (append v w)

  dropped : (n : ℕ) (xs : List A) → All P xs → All P (drop n xs)
  dropped zero xs v = v
  dropped (suc n) [] v = all_none
  dropped (suc n) (x ∷ xs) (all_more p v) = dropped n xs v

-- ---- what is told of faults

-- every fault has a place of at most b, and so has what is told
abbrev Within : ℕ → List Fault → Type 0
Within b fs = All (λ (f : Fault). f.place ≤ b) fs

abbrev ToldWithin : ℕ → Option Fault → Type 0
ToldWithin b None = Unit {0}
ToldWithin b (Some f) = f.place ≤ b

earlier-within : (b : ℕ) (x y : Option Fault) → ToldWithin b x → ToldWithin b y → ToldWithin b (earlier x y)
unfolding earlier
earlier-within b None y h k = k
earlier-within b (Some f) None h k = h
earlier-within b (Some f) (Some g) h k = both (is_earlier f g) (λ e. rw (e, earlier) h) (λ e. rw (e, earlier) k)

least-within : (b : ℕ) (fs : List Fault) → Within b fs → ToldWithin b (least fs)
unfolding least
least-within b [] all_none = tt
least-within b (f ∷ fs) (all_more h w) = earlier-within b (Some f) (least fs) h (least-within b fs w)

-- ---- items, fields and the closing brace stand in the text

-- a name and a value at most at b
record Inside (b : ℕ) (m : Member) : Type 0 where
  named : m.name ≤ b
  valued : m.value ≤ b

module _ (s : List ℕ) (b : ℕ) (long : length s ≤ b) where
  next-inside : (e : ℕ) → e ≤ length s → next_at s e ≤ length s
  unfolding next_at
  next-inside e h = both (eqb (byte s (ws s e)) 44)
      (λ q. rw (q, next_at) (token-ends s e 44 q (omega arith)).1)
      (λ q. let w = ws_stops s e in rw (q, next_at) (omega arith))

  -- an item's value, and where the next one begins
  abbrev Lies : Option Item → Type 0
  Lies (Some t) = (t.value ≤ length s) × (t.next ≤ length s)
  Lies None = Unit {0}

  item-lies : (k : ℕ) → Lies (item_at s k)
  unfolding item_at
  item-lies k = go (value_at 16 s k) refl (value-past s 16 k)
    where
      go : (r : Result ℕ ℕ) → value_at 16 s k ≡ r → Past s k r → Lies (item_at s k)
      go (Ok e) q p = let n = next-inside e p.1 in rw (q, item_at) (omega arith, n)
      go (Err e) q p = rw (q, item_at) tt

  element-lies : (i : ℕ) → Lies (element_at s i)
  unfolding element_at
  element-lies i = item-lies i

  member-lies : (i : ℕ) → Lies (member_at s i)
  unfolding member_at
  member-lies i = go (key_at s i) refl
    where
      go : (r : Result ℕ ℕ) → key_at s i ≡ r → Lies (member_at s i)
      go (Ok k) q = rw (q, member_at) (item-lies k)
      go (Err e) q = rw (q, member_at) tt

  module _ (step : ℕ → Option Item) (lies : (i : ℕ) → Lies (step i)) where
    list_inside : (f i : ℕ) → i ≤ length s → All (Inside b) (list_from step f i)
    unfolding list_from
    list_inside zero i h = all_none
    list_inside (suc f) i h = go (step i) refl (lies i) (λ j. list_inside f j)
      where
        go : (r : Option Item) → step i ≡ r → Lies r → ((j : ℕ) → j ≤ length s → All (Inside b) (list_from step f j)) → All (Inside b) (list_from step (suc f) i)
        go (Some t) q l ih = rw (q, list_from) (cons (omega arith) (ih t.next l.1))
        go None q l ih = rw (q, list_from) all_none

    -- behind an opening byte
    opened_inside : (f at k : ℕ) → eqb (byte s at) k ≡ true → k < 256 → All (Inside b) (list_from step f (ws s (at + 1)))
    opened_inside f at k e h = list_inside f (ws s (at + 1)) (begin-ends s at k e h).1

  members-inside : (at : ℕ) → All (Inside b) (members s at)
  unfolding members members_at is_object
  members-inside at = both (is_object s at)
      (λ q. rw (q, members) (opened_inside (member_at s) member-lies (suc (length s)) at 123 q (omega arith)))
      (λ q. rw (q, members) all_none)

  elements-inside : (at : ℕ) → All (Inside b) (elements s at)
  unfolding elements elements_at is_array
  elements-inside at = both (is_array s at)
      (λ q. rw (q, elements) (opened_inside (element_at s) element-lies (suc (length s)) at 91 q (omega arith)))
      (λ q. rw (q, elements) all_none)

  -- the place that a field holds
  abbrev Holds : Option ℕ → Type 0
  Holds None = Unit {0}
  Holds (Some k) = k ≤ b

  more-holds : (f : Option ℕ) (k : ℕ) → Holds f → k ≤ b → Holds (one_more f k)
  unfolding one_more
  more-holds None k h l = l
  more-holds (Some j) k h l = h

  field_in-holds : (name : List ℕ) (f : Option ℕ) (ms : List Member) → Holds f → All (Inside b) ms → Holds (field_in s name f ms)
  unfolding field_in
  field_in-holds name f [] h all_none = h
  field_in-holds name f (m ∷ ms) h (all_more i v) = both (is_named s name m)
      (λ q. rw (q, field_in) (field_in-holds name (one_more f m.value) ms (more-holds f m.value h i.valued) v))
      (λ q. rw (q, field_in) (field_in-holds name f ms h v))

  field-holds : (at : ℕ) (name : List ℕ) → Holds (field s at name)
  unfolding field
  field-holds at name = field_in-holds name None (members s at) tt (members-inside at)

  in-inside : (f : Option ℕ) → All (Inside b) (members_in s f)
  unfolding members_in
  in-inside None = all_none
  in-inside (Some k) = members-inside k

  close-inside : (at : ℕ) → at ≤ b → close_at s at ≤ b
  unfolding close_at
  close-inside at h = go (value_at 16 s at) refl (value-past s 16 at)
    where
      go : (r : Result ℕ ℕ) → value_at 16 s at ≡ r → Past s at r → close_at s at ≤ b
      go (Ok e) q p = rw (q, close_at) (omega arith)
      go (Err e) q p = rw (q, close_at) h

  -- ---- faults of values and names

  rule : (t : Bool) (f : Fault) → f.place ≤ b → Within b (t otherwise f)
  unfolding ◌otherwise◌
  rule true f h = all_none
  rule false f h = one h

  of_kind_lem : (t : Bool) (k : ℕ) {fs : List Fault} → k ≤ b → Within b fs → Within b (of_kind t k fs)
  unfolding of_kind
  of_kind_lem true k h w = w
  of_kind_lem false k h w = one (omega arith)

  among-within : (f : Member → List Fault) (ms : List Member) → All (Inside b) ms → ((m : Member) → Inside b m → Within b (f m)) → Within b (among f ms)
  unfolding among
  among-within f [] all_none g = all_none
  among-within f (m ∷ ms) (all_more i v) g = append (g m i) (among-within f ms v g)

  -- half a surrogate pair stands in the text too
  decoded-within : (k : ℕ) {rules : List ℕ → List Fault} → ((t : List ℕ) → Within b (rules t)) → Within b (decoded_faults s k rules)
  unfolding decoded_faults unless_half
  decoded-within k {rules} w = go (decoded_at s k) refl
    where
      go : (d : Decoded) → decoded_at s k ≡ d → Within b (unless_half d k rules)
      go (whole t) e = w t
      go (half p) e = let h = half-inside s k e in one (omega arith)

  string-within : (k : ℕ) → k ≤ b → Within b (string_faults s k)
  unfolding string_faults
  string-within k h = rule _ _ (omega arith)

  id-within : (k : ℕ) → k ≤ b → Within b (id_faults s k)
  unfolding id_faults id_rule
  id-within k h = of_kind_lem _ k h (decoded-within k (λ t. rule _ _ (omega arith)))

  array-within : (f : List ℕ → ℕ → List Fault) → ((k : ℕ) → k ≤ b → Within b (f s k)) → (k : ℕ) → k ≤ b → Within b (array_faults f s k)
  unfolding array_faults
  array-within f g k h = of_kind_lem _ k h (among-within (λ m. f s m.value) (elements s k) (elements-inside k) (λ m i. g m.value i.valued))

  kind-within : (kind : Kind) (k : ℕ) → k ≤ b → Within b (kind_faults kind s k)
  unfolding kind_faults
  kind-within Text k h = string-within k h
  kind-within Flag k h = rule _ _ (omega arith)
  kind-within Object k h = rule _ _ (omega arith)
  kind-within Ids k h = array-within id_faults id-within k h
  kind-within Texts k h = array-within string_faults string-within k h

  field-within : (kind : Kind) (f : Option ℕ) → Holds f → Within b (field_faults kind s f)
  unfolding field_faults
  field-within kind None h = all_none
  field-within kind (Some k) h = kind-within kind k h

  known-within : (kind : Kind) (at : ℕ) (name : List ℕ) → Within b (field_faults kind s (field s at name))
  known-within kind at name = field-within kind (field s at name) (field-holds at name)

  missing-within : (at : ℕ) → at ≤ b → Within b (missing (close_at s at) ∷ [])
  missing-within at h = let k = close-inside at h in one (omega arith)

  name-within : (owner : Owner) (at : ℕ) → Within b (name_faults owner s at)
  unfolding name_faults name_faults_of repeat_faults
  name-within owner at = among-within (name_faults_of owner s at) (members s at) (members-inside at) (λ m i. decoded-within m.name (λ t. rule _ _ (omega arith)))

  entry-within : (at : ℕ) (value : List Fault) (m : Member) → Inside b m → Within b value → Within b (entry_faults s at value m)
  unfolding entry_faults id_rule
  entry-within at value m i w = append (decoded-within m.name (λ t. rule _ _ (omega arith))) (go (comes_first s at m))
    where
      go : (t : Bool) → Within b (elim t [ true ↦ value | false ↦ repeated m.name ∷ [] ])
      go true = w
      go false = one (omega arith)

  -- ---- a property

  datatype-within : (at : ℕ) (f : Option ℕ) → at ≤ b → Holds f → Within b (datatype_faults s at f)
  unfolding datatype_faults datatype_rule
  datatype-within at None h l = missing-within at h
  datatype-within at (Some k) h l = of_kind_lem _ k l (decoded-within k (λ t. rule _ _ (omega arith)))

  given-within : (kept : Bool) (d : Datatype) (k : ℕ) → k ≤ b → Within b (given_faults kept d s k)
  unfolding given_faults format_rule
  given-within true d k h = decoded-within k (λ t. rule _ _ (omega arith))
  given-within false d k h = all_none

  format-within : (at : ℕ) (d : Option Datatype) (f : Option ℕ) → at ≤ b → Holds f → Within b (format_faults s at d f)
  unfolding format_faults
  format-within at None f h l = field-within Text f l
  format-within at (Some d) None h l = let k = close-inside at h in rule _ _ (omega arith)
  format-within at (Some d) (Some k) h l = of_kind_lem _ k l (given-within _ d k l)

  property-within : (k : ℕ) → k ≤ b → Within b (property_faults s k)
  unfolding property_faults property_field_faults
  property-within k h =
      of_kind_lem _ k h
      (append (name-within _ k)
      (append (datatype-within k _ h (field-holds k _))
      (append (known-within _ k _)
      (append (known-within _ k _)
      (append (format-within k _ _ h (field-holds k _))
      (append (known-within _ k _)
      (known-within _ k _)))))))

  -- ---- a node

  each_within : (f : ℕ → Member → List Fault) → ((at : ℕ) (m : Member) → Inside b m → Within b (f at m)) → (g : Option ℕ) → Within b (each f s g)
  unfolding each
  each_within f w None = all_none
  each_within f w (Some k) = among-within (f k) (members s k) (members-inside k) (w k)

  property_member-within : (at : ℕ) (m : Member) → Inside b m → Within b (property_member s at m)
  unfolding property_member
  property_member-within at m i = entry-within at _ m i (property-within m.value i.valued)

  node-within : (k : ℕ) → k ≤ b → Within b (node_faults s k)
  unfolding node_faults node_field_faults
  node-within k h =
      of_kind_lem _ k h
      (append (name-within _ k)
      (append (known-within _ k _)
      (append (known-within _ k _)
      (append (known-within _ k _)
      (each_within (property_member s) property_member-within _)))))

  node_member-within : (at : ℕ) (m : Member) → Inside b m → Within b (node_member s at m)
  unfolding node_member
  node_member-within at m i = entry-within at _ m i (node-within m.value i.valued)

  by-inside : (t : Bool) (k : ℕ) → All (Inside b) (named_by s t k)
  unfolding named_by
  by-inside true k = in-inside _
  by-inside false k = all_none

  named-inside : (at : ℕ) (ns : List Member) → All (Inside b) (named_in s at ns)
  unfolding named_in
  named-inside at [] = all_none
  named-inside at (n ∷ ns) = append (by-inside _ n.value) (named-inside at ns)

  many-within : (ms : List Member) → All (Inside b) ms → Within b (too_many s ms)
  unfolding too_many too_many_at
  many-within ms v = among-within _ (drop properties_most ms) (dropped properties_most ms v) (λ m i. decoded-within m.name (λ t. one (omega arith)))

  nodes-within : (f : Option ℕ) → Within b (nodes_faults s f)
  unfolding nodes_faults
  nodes-within None = all_none
  nodes-within (Some k) = append (among-within (node_member s k) (members s k) (members-inside k) (node_member-within k)) (many-within _ (named-inside k (members s k)))

  -- ---- a device

  homie-within : (at : ℕ) (f : Option ℕ) → at ≤ b → Holds f → Within b (homie_faults s at f)
  unfolding homie_faults homie_rule
  homie-within at None h l = missing-within at h
  homie-within at (Some k) h l = of_kind_lem _ k l (decoded-within k (λ t. rule _ _ (omega arith)))

  version-within : (at : ℕ) (f : Option ℕ) → at ≤ b → Holds f → Within b (version_faults s at f)
  unfolding version_faults
  version-within at None h l = missing-within at h
  version-within at (Some k) h l = of_kind_lem _ k l (rule _ _ (omega arith))

  other-within : (at : ℕ) → Within b (other_faults s at)
  unfolding other_faults
  other-within at =
      append (known-within _ at _)
      (append (known-within _ at _)
      (append (known-within _ at _)
      (append (known-within _ at _)
      (known-within _ at _))))

  module _ (own : List ℕ) where
    relative-within : (k : ℕ) → k ≤ b → (t : List ℕ) → Within b (relative_faults own k t)
    unfolding relative_faults
    relative-within k h t = append (rule _ _ (omega arith)) (rule _ _ (omega arith))

    root-within : (f : Option ℕ) → Holds f → Within b (root_faults own s f)
    unfolding root_faults
    root-within None h = all_none
    root-within (Some k) h = of_kind_lem _ k h (decoded-within k (relative-within k h))

    parent-within : (root f : Option ℕ) → Holds f → Within b (parent_faults own s root f)
    unfolding parent_faults parent_rule
    parent-within root None h = all_none
    parent-within root (Some k) h = of_kind_lem _ k h (decoded-within k (λ t. append (relative-within k h t) (rule _ _ (omega arith))))

    device-within : (at : ℕ) → at ≤ b → Within b (device_faults own s at)
    unfolding device_faults device_field_faults
    device-within at h =
        of_kind_lem _ at h
        (append (name-within _ at)
        (append (homie-within at _ h (field-holds at _))
        (append (version-within at _ h (field-holds at _))
        (append (other-within at)
        (append (root-within _ (field-holds at _))
        (append (parent-within _ _ (field-holds at _))
        (nodes-within _)))))))

-- ---- what is told

module _ (own s : List ℕ) where
  tells : ToldWithin 8192 (told own s)
  tells = go (bad_places s) refl
    where
      no_place : {p : ℕ} {ps : List ℕ} → p ∷ ps ≡ [] → ⊥
      no_place e = let z : ◌≡◌ {A = ℕ} 0 1 = cc in omega arith

      go : (ps : List ℕ) → bad_places s ≡ ps → ToldWithin 8192 (told own s)
      go [] e =
          let long = ((none_wrong s).0 e).1 in let w = ws_stops s 0 in let l : ws s 0 ≤ 8192 = omega arith in
          rw (right-told own s e) (least-within 8192 _ (device-within s 8192 long own (ws s 0) l))
      go (p ∷ ps) e = let h = fault-min s in rw (wrong-told own s (λ d. no_place (sym e ∙ d))) (omega arith)

  bounded : {x : Fault} → told own s ≡ Some x → x.place ≤ 8192
  bounded e = rw e at tells

pub told-short : (own s : List ℕ) {x : Fault} → told own s ≡ Some x → x.place ≤ 8192
told-short own s e = bounded own s e

pub number_within : (k : FaultKind) → (21 ≤ fault_number k) × (fault_number k ≤ 25)
number_within FaultKind.NotJson = (omega arith, omega arith)
number_within FaultKind.WrongKind = (omega arith, omega arith)
number_within FaultKind.FieldMissing = (omega arith, omega arith)
number_within FaultKind.NameRepeated = (omega arith, omega arith)
number_within FaultKind.RuleBroken = (omega arith, omega arith)

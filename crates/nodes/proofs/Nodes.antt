-- What each way through the code adds.
use Rattle.std.specs.Prelude.{None, Option, Some}
use Prim.Native.Nat.{ℕ, zero, suc, ◌+◌, ◌≤◌, ◌<◌}
use native.Mathlib.Omega.{arith}
use mathlib.Core.Path.{◌≡◌, refl, sym, ap, ◌∙◌, subst}
use mathlib.Core.List.{List, [], ◌∷◌, ◌++◌, append_assoc, append-nil}
use mathlib.Core.Bool.{Bool, true, false}
use lib.ListN.{drop}
use lib.Dec.{ltb}
use borrow.Author.Tests.{ltb-true, ltb-false, lt-ltb, le-ltb}
use Rattle.text.proofs.Bytes.{both}
use Rattle.json_text.specs.Members.{Member}
use Rattle.faults.specs.declared.Fault.{Fault}
use Rattle.faults.specs.Faults.{earlier, least, wrong_kind, repeated, other_rule}
use Rattle.faults.proofs.Laws.{earlier_assoc, earlier_comm, earlier-nothing, least-join, least-nothing, least-none, least-one, at-nothing, join-told}
use Rattle.escapes.specs.Decode.{Decoded, whole, half}
use Rattle.fields.specs.Values.{decoded_at, is_object, members}
use Rattle.fields.specs.Fields.{field, field_in, first_of, members_in, comes_first, unless_half, decoded_faults, no_rule, id_rule, entry_faults, among, of_kind, name_faults, field_faults}
use Rattle.fields.proofs.Decoded.{whole-faults, untold-whole, told-faults}
use Rattle.fields.specs.Known.{known_name, field_at, Knows}
use Rattle.fields.specs.declared.Kind.{Kind}
use Rattle.fields.specs.declared.Kind.TheVariants.{Text, Object}
use Rattle.fields.specs.declared.Known.{Known}
use Rattle.fields.specs.declared.Owner.TheVariants as owner
use Rattle.properties.specs.Property.{Property, property_faults, property_at, insert, insert_all}
use Rattle.properties.specs.Entries.{properties_most, content, view, Inserted}
use Rattle.properties.specs.declared.Entries.{Entries}
use Rattle.properties.specs.declared.Judged.{Judged}
use Rattle.properties.specs.Judged.{Judges}
use Rattle.nodes.specs.declared.Listed.{Listed}
use Rattle.nodes.specs.Names.{name, type, properties}
use Rattle.nodes.specs.Nodes.{property_member, each, node_field_faults, node_faults, node_member, named_by, named_in, too_many_at, too_many, nodes_faults, properties_among, properties_of}
use Rattle.nodes.specs.Listed.{Lists}
use Rattle.nodes.specs.Parts.{item_of, lists, counted, past_most_at, past_most, Adds, seen_faults}
use Rattle.nodes.proofs.Adding.{counted-few, Adding, AddsAll, adds_none, adds_as, adds_then, adds-faults}

-- ---- one property

-- the 25th property's ID has a fault
pub too_many-one : (s : List ℕ) (k : ℕ) → too_many_at s k ≡ [] → ⊥
unfolding too_many_at decoded_faults unless_half
too_many-one s k e = go (decoded_at s k) e
  where
    go : (d : Decoded) → unless_half d k (λ t. other_rule k ∷ []) ≡ [] → ⊥
    go (whole t) q = let z : ◌≡◌ {A = ℕ} 0 1 = cc in absurd (omega arith)
    go (half p) q = let z : ◌≡◌ {A = ℕ} 0 1 = cc in absurd (omega arith)

-- by what is told of half a surrogate pair in it
module _ (s : List ℕ) (k : ℕ) {r : Option Fault} (w : r ≡ least (decoded_faults s k no_rule)) where
  too_many-half : {x : Fault} → r ≡ Some x → Some x ≡ least (too_many_at s k)
  unfolding too_many_at
  too_many-half {x} q = least-one x ∙ sym (ap least (told-faults s k w q (λ t. other_rule k ∷ [])))

  too_many-whole : r ≡ None → Some (other_rule k) ≡ least (too_many_at s k)
  unfolding too_many_at
  too_many-whole q = least-one (other_rule k) ∙ sym (ap least (whole-faults s k (λ t. other_rule k ∷ []) (untold-whole s k w q)))

module _ (s : List ℕ) (n k : ℕ) where
  past_room : n < properties_most → past_most_at s n k ≡ []
  unfolding past_most_at
  past_room h = rw (lt-ltb n properties_most h, past_most_at)

  past-full : properties_most ≤ n → past_most_at s n k ≡ too_many_at s k
  unfolding past_most_at
  past-full h = rw (le-ltb n properties_most h, past_most_at)

  pub within-most : n < properties_most → None ≡ least (past_most_at s n k)
  within-most h = least-none (past_room h)

  module _ (h : properties_most ≤ n) {r : Option Fault} (w : r ≡ least (decoded_faults s k no_rule)) where
    pub beyond-most : r ≡ None → Some (other_rule k) ≡ least (past_most_at s n k)
    beyond-most q = too_many-whole s k w q ∙ sym (ap least (past-full h))

    pub beyond-half : {x : Fault} → r ≡ Some x → Some x ≡ least (past_most_at s n k)
    beyond-half q = too_many-half s k w q ∙ sym (ap least (past-full h))

  -- where nothing is told of the number, there is room
  room : least (past_most_at s n k) ≡ None → n < properties_most
  room e = both (ltb n properties_most)
      (λ q. ltb-true n properties_most q)
      (λ q. absurd (too_many-one s k (least-nothing (too_many_at s k) (sym (ap least (past-full (ltb-false n properties_most q))) ∙ e))))

swap : (a b c : Option Fault) → earlier (earlier a b) c ≡ earlier (earlier a c) b
swap a b c = earlier_assoc a b c ∙ (ap (earlier a) (earlier_comm b c) ∙ sym (earlier_assoc a c b))

past_one : (s : List ℕ) (n : ℕ) (m : Member) → least (past_most s n (m ∷ [])) ≡ least (past_most_at s n m.name)
unfolding past_most
past_one s n m = ap least (append-nil (past_most_at s n m.name))

-- the value of a member, by whether it is the first of its name
abbrev pub value_faults : Bool → List Fault → ℕ → List Fault
value_faults first fs i = elim first [ true ↦ fs | false ↦ repeated i ∷ [] ]

module _ (s : List ℕ) (i : ℕ) (fs : List Fault) {want : Property} {j : Judged} {first : Bool} where
  pub judged-first : first ≡ true → Judges fs want s j → Judges (value_faults first fs i) want s j
  judged-first e h = rw e h

  pub judged-again : first ≡ false → j.told ≡ Some (repeated i) → Judges (value_faults first fs i) want s j
  judged-again e h = rw e (record { told = h ∙ least-one (repeated i); declares = λ z. absurd (at-nothing (sym h ∙ z)) })

-- a member of `properties`, judged with n before it
module _ (s : List ℕ) (node at i k e n : ℕ) {first : Bool} {p r : Judged} {name past one : Option Fault} where
  pub member-judged :
      first ≡ first_of s at k (decoded_at s i) →
      Judges (value_faults first (property_faults s k) i) (property_at s node i k) s p →
      name ≡ least (decoded_faults s i (id_rule i)) →
      past ≡ least (past_most_at s n i) →
      one ≡ earlier name past →
      r.told ≡ earlier one p.told →
      r.entry ≡ p.entry →
      Judges (property_member s at (item_of i k e) ++ past_most s n (item_of i k e ∷ [])) (property_at s node i k) s r
  unfolding property_member entry_faults comes_first past_most
  member-judged f j x y t1 t2 q =
      let value = value_faults first (property_faults s k) i in
      let ids = decoded_faults s i (id_rule i) in
      let most = past_most_at s n i in
      record {
        told = t2 ∙ (ap (λ (z : Option Fault). earlier z p.told) t1 ∙ (swap name past p.told ∙ (join-told (ids ++ value) (most ++ []) (join-told ids value x j.told) (y ∙ ap least (sym (append-nil most))) ∙ ap (λ (b : Bool). least ((ids ++ value_faults b (property_faults s k) i) ++ (most ++ []))) f)));
        declares = λ z. ap (content s) q ∙ j.declares (earlier-nothing one p.told (sym t2 ∙ z)).1;
      }

-- put into the list
module _ (s : List ℕ) (m : Member) (fs : List Fault) {want : Property} {told told' : Option Fault} {list list' : Entries} {p : Judged} where
  pub adds_one : Judges (fs ++ past_most s list.n (m ∷ [])) want s p → told' ≡ earlier told p.told → Inserted s (content s p.entry) list list' →
      Adds fs (m ∷ []) (want ∷ []) s (lists told list) (lists told' list')
  unfolding counted insert_all
  adds_one j t l =
      let n = list.n in
      record {
        told = t ∙ ap (earlier told) j.told;
        count = both (ltb n properties_most)
            (λ q. l.count (ltb-true n properties_most q) ∙ rw (q, counted))
            (λ q. ap (λ (r : Entries). r.n) (l.full (ltb-false n properties_most q)) ∙ rw (q, counted));
        list = λ z.
            let none = (earlier-nothing told p.told (sym t ∙ z)).1 in
            let parts = earlier-nothing (least fs) (least (past_most s n (m ∷ []))) (sym (least-join fs (past_most s n (m ∷ []))) ∙ (sym j.told ∙ none)) in
            l.view (room s n m.name (sym (past_one s n m) ∙ parts.1)) ∙ ap (λ (q : Property). insert q (view s list)) (j.declares none);
      }

-- ---- the properties of a node

pub among-append : (f : Member → List Fault) (ms ns : List Member) → among f (ms ++ ns) ≡ among f ms ++ among f ns
unfolding among
among-append f [] ns = refl
among-append f (m ∷ ms) ns = ap (λ (l : List Fault). f m ++ l) (among-append f ms ns) ∙ sym (append_assoc (f m) (among f ms) (among f ns))

among_one : (f : Member → List Fault) (m : Member) → f m ≡ among f (m ∷ [])
unfolding among
among_one f m = sym (append-nil (f m))

pub properties-append : (s : List ℕ) (node : ℕ) (ms ns : List Member) → properties_among s node (ms ++ ns) ≡ properties_among s node ms ++ properties_among s node ns
unfolding properties_among
properties-append s node [] ns = refl
properties-append s node (m ∷ ms) ns = ap (λ (l : List Property). property_at s node m.name m.value ∷ l) (properties-append s node ms ns)

unfoldable pub of_properties : (s : List ℕ) (node at : ℕ) → Adding
unfolding among properties_among
of_properties s node at = record {
  faults = among (property_member s at);
  named = λ ms. ms;
  declared = properties_among s node;
  faults-append = among-append (property_member s at);
  named-append = λ ms ns. refl;
  declared-append = properties-append s node;
  faults-none = refl;
  named_none = refl;
  declared-none = refl;
}

module _ (s : List ℕ) (node at i k e : ℕ) {a b : Listed} where
  pub one-property : Adds (property_member s at (item_of i k e)) (item_of i k e ∷ []) (property_at s node i k ∷ []) s a b → AddsAll (of_properties s node at) (item_of i k e ∷ []) s a b
  unfolding of_properties properties_among
  one-property h = adds_as s (ap least (among_one (property_member s at) (item_of i k e))) h

module _ (s : List ℕ) (node : ℕ) {f : Option ℕ} {a b : Listed} where
  pub field-none : f ≡ None → a ≡ b → Adds (each (property_member s) s f) (members_in s f) (properties_among s node (members_in s f)) s a b
  unfolding each members_in properties_among
  field-none e q = rw (e, sym q) (adds_none s a)

  pub field-some : (k : ℕ) → f ≡ Some k → AddsAll (of_properties s node k) (members s k) s a b → Adds (each (property_member s) s f) (members_in s f) (properties_among s node (members_in s f)) s a b
  unfolding each members_in of_properties
  field-some k e h = rw e h

-- ---- a node

-- one thing more told of a list
pub adds-also : (s : List ℕ) (fs : List Fault) {t u u' : Option Fault} {l : Entries} → t ≡ least fs → u' ≡ earlier u t → Adds fs [] [] s (lists u l) (lists u' l)
adds-also s fs p h = adds-faults s fs p refl h refl

pub told_of : (s seen : List ℕ) (c : ℕ) (kind : Kind) {f : Option ℕ} {t : Option Fault} → f ≡ field_at seen c → t ≡ least (field_faults kind s f) → t ≡ least (field_faults kind s (field_at seen c))
told_of s seen c kind e h = rw (sym e) h

pub no_field : (s : List ℕ) (k : ℕ) (t : List ℕ) → is_object s k ≡ false → field s k t ≡ None
unfolding field members field_in
no_field s k t e = rw (e, members)

abbrev AddsNode : (s : List ℕ) (i k : ℕ) → List Fault → Listed → Listed → Type 0
AddsNode s i k fs a b = Adds fs (members_in s (field s k properties)) (properties_among s i (members_in s (field s k properties))) s a b

module _ (s : List ℕ) (i k : ℕ) {told : Option Fault} {list : Entries} where
  pub node_kind : {told' : Option Fault} → is_object s k ≡ false → told' ≡ earlier told (Some (wrong_kind k)) → AddsNode s i k (node_faults s k) (lists told list) (lists told' list)
  unfolding node_faults of_kind members_in properties_among
  node_kind e h = rw (no_field s k properties e, e) (adds-also s (wrong_kind k ∷ []) (least-one (wrong_kind k)) h)

  pub node-fields : {m : Known} {t u v : Option Fault} {f : Option ℕ} {b : Listed} → is_object s k ≡ true → Knows owner.Node s k m →
      t ≡ least (seen_faults s m.seen) → u ≡ earlier m.told t → v ≡ earlier told u → f ≡ field_at m.seen 13 →
      Adds (each (property_member s) s f) (members_in s f) (properties_among s i (members_in s f)) s (lists v list) b → AddsNode s i k (node_faults s k) (lists told list) b
  unfolding node_faults node_field_faults of_kind seen_faults known_name
  node-fields {m} {t} {u} {v} {f} {b} o w p q x y h =
      let n = name_faults owner.Node s k in
      let g = each (property_member s) s (field s k properties) in
      let v0 : field_at m.seen 0 ≡ field s k name = w.fields 0 (omega arith) in
      let v1 : field_at m.seen 1 ≡ field s k type = w.fields 1 (omega arith) in
      let v13 : field_at m.seen 13 ≡ field s k properties = w.fields 13 (omega arith) in
      let fa = field_faults Text s (field s k name) in
      let fb = field_faults Text s (field s k type) in
      let fc = field_faults Object s (field s k properties) in
      let p' : t ≡ least (fa ++ (fb ++ fc)) = rw (v0, v1, v13) at p in
      let h' : AddsNode s i k g (lists v list) b = subst (λ (z : Option ℕ). Adds (each (property_member s) s z) (members_in s z) (properties_among s i (members_in s z)) s (lists v list) b) (y ∙ v13) h in
      let r = adds_then s (adds-also s (n ++ (fa ++ (fb ++ fc))) (q ∙ join-told n (fa ++ (fb ++ fc)) w.told p') x) h' in
      rw o (adds_as s (ap least (append_assoc n (fa ++ (fb ++ fc)) g ∙ ap (λ (l : List Fault). n ++ l) (append_assoc fa (fb ++ fc) g ∙ ap (λ (l : List Fault). fa ++ l) (append_assoc fb fc g)))) r)

-- ---- nodes

pub named-append : (s : List ℕ) (at : ℕ) (ms ns : List Member) → named_in s at (ms ++ ns) ≡ named_in s at ms ++ named_in s at ns
unfolding named_in
named-append s at [] ns = refl
named-append s at (m ∷ ms) ns =
    let l = named_by s (comes_first s at m) m.value in
    ap (λ (r : List Member). l ++ r) (named-append s at ms ns) ∙ sym (append_assoc l (named_in s at ms) (named_in s at ns))

pub declared-append : (s : List ℕ) (ms ns : List Member) → properties_of s (ms ++ ns) ≡ properties_of s ms ++ properties_of s ns
unfolding properties_of
declared-append s [] ns = refl
declared-append s (m ∷ ms) ns =
    let l = properties_among s m.name (members_in s (field s m.value properties)) in
    ap (λ (r : List Property). l ++ r) (declared-append s ms ns) ∙ sym (append_assoc l (properties_of s ms) (properties_of s ns))

unfoldable pub of_nodes : (s : List ℕ) (at : ℕ) → Adding
unfolding among named_in properties_of
of_nodes s at = record {
  faults = among (node_member s at);
  named = named_in s at;
  declared = properties_of s;
  faults-append = among-append (node_member s at);
  named-append = named-append s at;
  declared-append = declared-append s;
  faults-none = refl;
  named_none = refl;
  declared-none = refl;
}

-- where something is told, no list is promised
adds-told : (s : List ℕ) {fs : List Fault} {ms : List Member} {ps : List Property} (qs : List Property) {a b : Listed} → (b.told ≡ None → ⊥) → Adds fs ms ps s a b → Adds fs ms qs s a b
adds-told s qs n h = record { told = h.told; count = h.count; list = λ e. absurd (n e) }

adds-nil : (s : List ℕ) {fs : List Fault} {ms : List Member} {ps : List Property} {a b : Listed} → Adds fs ms ps s a b → Adds fs (ms ++ []) (ps ++ []) s a b
adds-nil s {ms = ms} {ps = ps} h = rw (append-nil ms, append-nil ps) h

module _ (s : List ℕ) (at i k e : ℕ) {first : Bool} {name told named : Option Fault} {list : Entries} (f : first ≡ first_of s at k (decoded_at s i))
    (x : name ≡ least (decoded_faults s i (id_rule i))) (y : named ≡ earlier told name) where
  pub member-first : {c : Listed} → first ≡ true → AddsNode s i k (node_faults s k) (lists named list) c →
      Adds (node_member s at (item_of i k e)) (named_in s at (item_of i k e ∷ [])) (properties_of s (item_of i k e ∷ [])) s (lists told list) c
  unfolding node_member entry_faults comes_first named_in named_by properties_of
  member-first q h = rw (sym f ∙ q) (adds-nil s (adds_then s (adds-also s (decoded_faults s i (id_rule i)) x y) h))

  pub member-again : {u : Option Fault} → first ≡ false → u ≡ earlier named (Some (repeated i)) →
      Adds (node_member s at (item_of i k e)) (named_in s at (item_of i k e ∷ [])) (properties_of s (item_of i k e ∷ [])) s (lists told list) (lists u list)
  unfolding node_member entry_faults comes_first named_in named_by properties_of
  member-again q h = rw (sym f ∙ q) (adds-told s _ (λ z. at-nothing (earlier-nothing named (Some (repeated i)) (sym h ∙ z)).1) (adds_then s (adds-also s (decoded_faults s i (id_rule i)) x y) (adds-also s (repeated i ∷ []) (least-one (repeated i)) h)))

module _ (s : List ℕ) (at i k e : ℕ) {a b : Listed} where
  pub one-node : Adds (node_member s at (item_of i k e)) (named_in s at (item_of i k e ∷ [])) (properties_of s (item_of i k e ∷ [])) s a b → AddsAll (of_nodes s at) (item_of i k e ∷ []) s a b
  unfolding of_nodes
  one-node h = adds_as s (ap least (among_one (node_member s at) (item_of i k e))) h

-- ---- all of them

full : (n : ℕ) (m : Member) → n + 0 ≡ properties_most → counted n (m ∷ []) ≡ n
unfolding counted
full n m e = rw (le-ltb n properties_most (omega (arith, e)), counted)

more : (n : ℕ) (m : Member) → n < properties_most → counted n (m ∷ []) ≡ suc n
unfolding counted
more n m h = rw (lt-ltb n properties_most h, counted)

module _ (s : List ℕ) where
  past-drop : (d n : ℕ) (ms : List Member) → n + d ≡ properties_most → past_most s n ms ≡ among (λ m. too_many_at s m.name) (drop d ms)
  unfolding past_most among
  past-drop zero n [] e = refl
  past-drop (suc d) n [] e = refl
  past-drop zero n (m ∷ ms) e =
      rw (past-full s n m.name (omega (arith, e)))
      (ap (λ (l : List Fault). too_many_at s m.name ++ l) (ap (λ (k : ℕ). past_most s k ms) (full n m e) ∙ past-drop zero n ms e))
  past-drop (suc d) n (m ∷ ms) e =
      rw (past_room s n m.name (omega (arith, e)))
      (ap (λ (k : ℕ). past_most s k ms) (more n m (omega (arith, e))) ∙ past-drop d (suc n) ms (omega (arith, e)))

  pub past_many : (ms : List Member) → past_most s 0 ms ≡ too_many s ms
  unfolding too_many
  past_many ms = past-drop properties_most 0 ms refl

module _ (s : List ℕ) {f : Option ℕ} where
  pub lists-none : {r : Listed} → f ≡ None → r.told ≡ None → r.list.n ≡ 0 → view s r.list ≡ [] → Lists (nodes_faults s f) (insert_all (properties_of s (members_in s f)) []) s r
  unfolding nodes_faults members_in properties_of insert_all least
  lists-none e t n v = rw e (record { told = t; few = omega (arith, n); list = λ z. v })

  pub lists-some : (k : ℕ) {a b : Listed} → f ≡ Some k → a.told ≡ None → a.list.n ≡ 0 → view s a.list ≡ [] →
      AddsAll (of_nodes s k) (members s k) s a b → Lists (nodes_faults s f) (insert_all (properties_of s (members_in s f)) []) s b
  unfolding nodes_faults members_in of_nodes earlier
  lists-some k {a} {b} e t n v h = rw e (record {
    told = h.told ∙ (ap (λ (z : Option Fault). earlier z (least (among (node_member s k) (members s k) ++ past_most s a.list.n (named_in s k (members s k))))) t ∙ ap (λ (l : List Fault). least (among (node_member s k) (members s k) ++ l)) (ap (λ (z : ℕ). past_most s z (named_in s k (members s k))) n ∙ past_many s (named_in s k (members s k))));
    few = rw h.count (counted-few a.list.n (named_in s k (members s k)) (omega (arith, n)));
    list = λ z. h.list z ∙ ap (insert_all (properties_of s (members s k))) v;
  })

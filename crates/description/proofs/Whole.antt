-- The whole description.
use Rattle.std.specs.Prelude.{Err, Ok, Result, Option, None, Some}
use Prim.Native.Nat.{ℕ, ◌≤◌, ◌<◌, ◌^◌, min}
use native.Mathlib.Omega.{arith}
use mathlib.Core.Path.{◌≡◌, refl, sym, ap, ◌∙◌}
use mathlib.Core.List.{List, [], ◌∷◌, ◌++◌, map, append_assoc}
use mathlib.Core.Bool.{Bool, true, false}
use lib.ListN.{length}
use lib.Dec.{leb, eqb}
use borrow.Author.Tests.{le-leb, leb-true, leb-false, eqb-true, eqb-false}
use Rattle.answer.specs.Answer.{Answer, refused, only, placed, gives, require}
use Rattle.answer.proofs.Theorems.{same_number, same_place}
use Rattle.text.specs.Utf8.{is_utf8}
use Rattle.text.specs.Utf8Place.{utf8_place}
use Rattle.text.proofs.Bytes.{both}
use Rattle.numbers.specs.Whole.{stands}
use Rattle.json_text.specs.Bytes.{ws}
use Rattle.json_text.specs.Value.{document_of}
use Rattle.json_grammar.specs.Place.{bad_place, place_unless, bad_places, smallest, fault_place}
use Rattle.json_grammar.proofs.Smallest.{wrong-smallest, none_wrong}
use Rattle.faults.specs.declared.Fault.{Fault}
use Rattle.faults.specs.Faults.{is_earlier, earlier, least, not_json, wrong_kind, fault_number}
use Rattle.faults.proofs.Laws.{same_fault, is-told, is-before, is-behind, is-beside, earlier-first, earlier-second, earlier_assoc, earlier_comm, earlier-none, earlier-nothing, at-nothing, join-told}
use Rattle.fields.specs.Values.{is_object}
use Rattle.fields.specs.Fields.{field, members_in, field_faults}
use Rattle.fields.specs.Known.{known_name, field_at, Knows}
use Rattle.fields.specs.declared.Known.{Known}
use Rattle.fields.specs.declared.Kind.{Kind}
use Rattle.fields.specs.declared.Owner.TheVariants as owner
use Rattle.fields.proofs.Values.{kind-other, kind-right}
use Rattle.properties.specs.Property.{insert_all}
use Rattle.properties.specs.Entries.{properties_most, view}
use Rattle.nodes.specs.declared.Listed.{Listed}
use Rattle.nodes.specs.Listed.{Lists}
use Rattle.nodes.specs.Nodes.{nodes_faults, properties_of}
use Rattle.description.specs.Names.{homie, version, nodes, root, parent}
use Rattle.description.specs.declared.Description.{Description}
use Rattle.description.specs.declared.VersionRead.{VersionRead}
use Rattle.description.specs.Description.{homie_faults, version_in, version_faults, other_faults, root_faults, parent_faults, number_of, declared, device_field_faults, device_faults, json_faults, faults, told, Described, described_in, answered, describe}
use Rattle.description.specs.Parts.{ReadsVersion, other_faults_in, relatives_in, Tells}
use Rattle.description.specs.Meaning.{shown, listed, meaning, Shows}

-- ---- the answer

module _ (s : List ℕ) (d : Description) where
  pub not_taken : {x : Fault} → d.told ≡ Some x → meaning s d ≡ refused (placed (fault_number x.kind) x.place)
  unfolding meaning answered
  not_taken e = ap (λ (t : Option Fault). answered t (listed s d)) e

  pub is-taken : d.told ≡ None → meaning s d ≡ listed s d
  unfolding meaning answered
  is-taken e = ap (λ (t : Option Fault). answered t (listed s d)) e

  pub lists : leb d.properties.n properties_most ≡ true → listed s d ≡ gives (shown s d (view s d.properties))
  unfolding listed require
  lists e = rw (e, listed)

  no-list : leb d.properties.n properties_most ≡ false → listed s d ≡ refused (only 0)
  unfolding listed require
  no-list e = rw (e, listed)

  -- by cases of what is told, with its equation
  by-told : {X : Type 0} → (d.told ≡ None → X) → ((y : Fault) → d.told ≡ Some y → X) → X
  by-told f g = go d.told f g
    where
      go : {X : Type 0} (t : Option Fault) → (t ≡ None → X) → ((y : Fault) → t ≡ Some y → X) → X
      go None f g = f refl
      go (Some y) f g = g y refl

  pub shows : {x : Described} → meaning s d ≡ gives x → Shows s d x
  unfolding shown
  shows {x} m = by-told
      (λ t. both (leb d.properties.n properties_most)
      (λ l. let y : shown s d (view s d.properties) ≡ x = given (sym (lists l) ∙ (sym (is-taken t) ∙ m)) in
      record {
        taken = t;
        root = ap (λ (w : Described). w.root) y;
        parent = ap (λ (w : Described). w.parent) y;
        version = ap (λ (w : Described). w.version) y;
        few = leb-true d.properties.n properties_most l;
        properties = ap (λ (w : Described). w.properties) y;
      })
      (λ l. let y = no-list l in let w = is-taken t in let z : ◌≡◌ {A = ℕ} 0 1 = cc in absurd (omega arith)))
      (λ f t. let y = not_taken t in let z : ◌≡◌ {A = ℕ} 0 1 = cc in absurd (omega arith))
    where
      given : {y z : Described} → gives y ≡ gives z → y ≡ z
      given e = cc

module _ (own s : List ℕ) where
  pub told-nothing : told own s ≡ None → describe own s ≡ gives (described_in s (ws s 0))
  unfolding describe answered
  told-nothing e = ap (λ (t : Option Fault). answered t (gives (described_in s (ws s 0)))) e

  pub told_at : {x : Fault} → told own s ≡ Some x → describe own s ≡ refused (placed (fault_number x.kind) x.place)
  unfolding describe answered
  told_at e = ap (λ (t : Option Fault). answered t (gives (described_in s (ws s 0)))) e

some-place : {p : ℕ} {ps : List ℕ} → p ∷ ps ≡ [] → ⊥
some-place e = let z : ◌≡◌ {A = ℕ} 0 1 = cc in omega arith

abbrev tells_of : Answer Described → List ℕ
tells_of (refused r) = r.tells
tells_of (gives x) = []

alone-placed : {m n q : ℕ} → ◌≡◌ {A = Answer Described} (refused (only m)) (refused (placed n q)) → ⊥
alone-placed e = some-place (sym (ap tells_of e))

-- what was answered is what is told
module _ (own s : List ℕ) (d : Description) (p : meaning s d ≡ describe own s) where
  placed_is : {f g : Fault} → ◌≡◌ {A = Answer Described} (refused (placed (fault_number f.kind) f.place)) (refused (placed (fault_number g.kind) g.place)) → Some f ≡ Some g
  placed_is {f} {g} e = is-told (same_fault f g (same_place e) (same_number e))

  none_told : {x : Fault} → told own s ≡ Some x → d.told ≡ None → ⊥
  none_told f e = both (leb d.properties.n properties_most)
      (λ l. let x = is-taken s d e in let w = lists s d l in let y = told_at own s f in let z : ◌≡◌ {A = ℕ} 0 1 = cc in omega arith)
      (λ l. alone-placed (sym (is-taken s d e ∙ no-list s d l) ∙ (p ∙ told_at own s f)))

  pub told_is : d.told ≡ told own s
  told_is = go (told own s) refl
    where
      go : (t : Option Fault) → told own s ≡ t → d.told ≡ t
      go None f = by-told s d (λ e. e) (λ g e. let x = not_taken s d e in let y = told-nothing own s f in let z : ◌≡◌ {A = ℕ} 0 1 = cc in absurd (omega arith))
      go (Some x) f = by-told s d (λ e. absurd (none_told f e)) (λ g e. e ∙ placed_is (sym (not_taken s d e) ∙ (p ∙ told_at own s f)))

-- ---- not JSON

earlier-min : (a b : ℕ) → earlier (Some (not_json a)) (Some (not_json b)) ≡ Some (not_json (min a b))
earlier-min a b = both (leb a b)
    (λ e. let h = leb-true a b e in earlier-first (not_json a) (not_json b) (in_order a b h) ∙ ap (λ (k : ℕ). Some (not_json k)) (least-left a b h))
    (λ e. let h = leb-false a b e in earlier-second (not_json a) (not_json b) (sym (is-behind (not_json a) (not_json b) h)) ∙ ap (λ (k : ℕ). Some (not_json k)) (least-right a b h))
  where
    least-left : (a b : ℕ) → a ≤ b → a ≡ min a b
    least-left a b h = omega (arith, h)

    least-right : (a b : ℕ) → b < a → b ≡ min a b
    least-right a b h = omega (arith, h)

    strict : (a b : ℕ) → a ≤ b → (a ≡ b → ⊥) → a < b
    strict a b h n = omega (arith, h, n)

    in_order : (a b : ℕ) → a ≤ b → is_earlier (not_json a) (not_json b) ≡ true
    in_order a b h = both (eqb a b)
        (λ e. sym (is-beside (not_json a) (not_json b) (eqb-true a b e)))
        (λ e. sym (is-before (not_json a) (not_json b) (strict a b h (eqb-false a b e))))

least-smallest : (p : ℕ) (ps : List ℕ) → least (map not_json (p ∷ ps)) ≡ Some (not_json (smallest p ps))
unfolding least smallest
least-smallest p [] = earlier-none (Some (not_json p))
least-smallest p (q ∷ qs) =
    sym (earlier_assoc (Some (not_json p)) (Some (not_json q)) (least (map not_json qs))) ∙
    (ap (λ (t : Option Fault). earlier t (least (map not_json qs))) (earlier_comm (Some (not_json p)) (Some (not_json q))) ∙
    (earlier_assoc (Some (not_json q)) (Some (not_json p)) (least (map not_json qs)) ∙
    (ap (earlier (Some (not_json q))) (least-smallest p qs) ∙ earlier-min q (smallest p qs))))

append-none : (xs ys : List ℕ) → xs ++ ys ≡ [] → (xs ≡ []) × (ys ≡ [])
append-none [] ys e = (refl, e)
append-none (x ∷ xs) ys e = absurd (some-place e)

-- which texts these are
module _ (s : List ℕ) where
  pub too_long : 8192 < length s → bad_places s ≡ [] → ⊥
  too_long h e = let k = ((none_wrong s).0 e).1 in omega (arith, k)

  pub not-utf8 : {u : Bool} → u ≡ is_utf8 s → u ≡ false → bad_places s ≡ [] → ⊥
  unfolding bad_places place_unless
  not-utf8 q f e =
      let a = append-none (bad_place (document_of s)) (place_unless (is_utf8 s) (utf8_place s) ++ place_unless (leb (length s) 8192) 8192) e in
      some-place (rw (sym q ∙ f, place_unless) at (append-none (place_unless (is_utf8 s) (utf8_place s)) (place_unless (leb (length s) 8192) 8192) a.1).0)

  pub is_not_json : {r : Result ℕ ℕ} {p : ℕ} → r ≡ document_of s → r ≡ Err p → bad_places s ≡ [] → ⊥
  unfolding bad_places bad_place
  is_not_json q f e = some-place (rw (sym q ∙ f, bad_place) at (append-none (bad_place (document_of s)) (place_unless (is_utf8 s) (utf8_place s) ++ place_unless (leb (length s) 8192) 8192) e).0)

  pub is_json_lem : {r : Result ℕ ℕ} {p : ℕ} → r ≡ document_of s → r ≡ Ok p → is_utf8 s ≡ true → length s ≤ 8192 → bad_places s ≡ []
  unfolding bad_places bad_place place_unless
  is_json_lem q f u h = rw (sym q ∙ f, u, le-leb (length s) 8192 h)

module _ (own s : List ℕ) where
  pub wrong-told : (bad_places s ≡ [] → ⊥) → told own s ≡ Some (not_json (fault_place s))
  unfolding told faults json_faults
  wrong-told n = go (bad_places s) refl
    where
      go : (ps : List ℕ) → bad_places s ≡ ps → told own s ≡ Some (not_json (fault_place s))
      go [] e = absurd (n e)
      go (p ∷ ps) e = rw (e, faults) (least-smallest p ps) ∙ ap (λ (k : ℕ). Some (not_json k)) (sym (wrong-smallest s p ps e))

  pub right-told : bad_places s ≡ [] → told own s ≡ least (device_faults own s (ws s 0))
  unfolding told faults json_faults
  right-told e = rw (e, faults)

  -- a text of which its place as JSON is told
  pub describes_wrong : (d : Description) → d.told ≡ Some (not_json (fault_place s)) → (bad_places s ≡ [] → ⊥) → meaning s d ≡ describe own s
  describes_wrong d e n = not_taken s d e ∙ sym (told_at own s (wrong-told n))

  pub describes-right : (d : Description) {at : ℕ} → at ≡ ws s 0 → bad_places s ≡ [] → Tells (device_faults own s at) s at d → meaning s d ≡ describe own s
  describes-right d {at} z e t = by-told s d
      (λ q. is-taken s d q ∙ (t.declares q ∙ (ap (λ (k : ℕ). gives (described_in s k)) z ∙ sym (told-nothing own s (right-told e ∙ (ap (λ (k : ℕ). least (device_faults own s k)) (sym z) ∙ (sym t.told ∙ q)))))))
      (λ x q. not_taken s d q ∙ sym (told_at own s (right-told e ∙ (ap (λ (k : ℕ). least (device_faults own s k)) (sym z) ∙ (sym t.told ∙ q)))))

-- ---- the device

pub told_of : (s seen : List ℕ) (c : ℕ) (kind : Kind) {f : Option ℕ} {t : Option Fault} → f ≡ field_at seen c → t ≡ least (field_faults kind s f) → t ≡ least (field_faults kind s (field_at seen c))
told_of s seen c kind e h = rw (sym e) h

pub relatives-told : (own s seen : List ℕ) {f g : Option ℕ} {a b t : Option Fault} → f ≡ field_at seen 3 → g ≡ field_at seen 6 → a ≡ least (root_faults own s f) → b ≡ least (parent_faults own s f g) → t ≡ earlier a b → t ≡ least (relatives_in own s seen)
unfolding relatives_in
relatives-told own s seen {f} {g} e d p q j = j ∙ (join-told (root_faults own s f) (parent_faults own s f g) p q ∙ rw (e, d))

module _ (own s : List ℕ) (at : ℕ) where
  pub device_kind : {b : Bool} {d : Description} → b ≡ is_object s at → b ≡ false → d.told ≡ Some (wrong_kind at) → Tells (device_faults own s at) s at d
  unfolding device_faults
  device_kind p e t = record { told = t ∙ kind-other at _ p e; declares = λ z. absurd (at-nothing (sym t ∙ z)) }

  pub device-right : {b : Bool} {d : Description} → b ≡ is_object s at → b ≡ true → Tells (device_field_faults own s at) s at d → Tells (device_faults own s at) s at d
  unfolding device_faults
  device-right p e t = record { told = kind-right at _ p e t.told; declares = t.declares }

  -- the fields by what was seen of them
  module _ (m : Known) (w : Knows owner.Device s at m) where
    seen_as : (c : ℕ) → c < 15 → {f : Option ℕ} → f ≡ field_at m.seen c → f ≡ field s at (known_name c)
    seen_as c h e = e ∙ w.fields c h

    others_as : least (other_faults_in s m.seen) ≡ least (other_faults s at)
    unfolding other_faults_in other_faults known_name
    others_as = rw (w.fields 5 (omega arith), w.fields 0 (omega arith), w.fields 1 (omega arith), w.fields 12 (omega arith), w.fields 14 (omega arith))

    relatives_as : least (relatives_in own s m.seen) ≡ least (root_faults own s (field s at root) ++ parent_faults own s (field s at root) (field s at parent))
    unfolding relatives_in known_name
    relatives_as = rw (w.fields 3 (omega arith), w.fields 6 (omega arith))

    module _ {h o r related others dated required : Option Fault} {f4 f8 f5 f3 f6 : Option ℕ} {x : VersionRead} {a : Listed} {d : Description}
        (e4 : f4 ≡ field_at m.seen 4) (th : h ≡ least (homie_faults s at f4))
        (e8 : f8 ≡ field_at m.seen 8) (tv : ReadsVersion s at f8 x)
        (to : o ≡ least (other_faults_in s m.seen)) (tr : r ≡ least (relatives_in own s m.seen))
        (e5 : f5 ≡ field_at m.seen 5) (tl : Lists (nodes_faults s f5) (insert_all (properties_of s (members_in s f5)) []) s a)
        (j1 : related ≡ earlier r a.told) (j2 : others ≡ earlier o related) (j3 : dated ≡ earlier x.told others) (j4 : required ≡ earlier h dated) (j5 : d.told ≡ earlier m.told required)
        (e3 : f3 ≡ field_at m.seen 3) (e6 : f6 ≡ field_at m.seen 6)
        (dr : d.root ≡ f3) (dp : d.parent ≡ f6) (dv : d.version ≡ x.value) (dl : d.properties ≡ a.list) where
      homie-field : f4 ≡ field s at homie
      unfolding known_name
      homie-field = seen_as 4 (omega arith) e4

      version-field : f8 ≡ field s at version
      unfolding known_name
      version-field = seen_as 8 (omega arith) e8

      nodes-field : f5 ≡ field s at nodes
      unfolding known_name
      nodes-field = seen_as 5 (omega arith) e5

      root-field : d.root ≡ field s at root
      unfolding known_name
      root-field = dr ∙ seen_as 3 (omega arith) e3

      parent-field : d.parent ≡ field s at parent
      unfolding known_name
      parent-field = dp ∙ seen_as 6 (omega arith) e6

      listed-told : a.told ≡ least (nodes_faults s (field s at nodes))
      listed-told = tl.told ∙ ap (λ (f : Option ℕ). least (nodes_faults s f)) nodes-field

      related-told : related ≡ least (root_faults own s (field s at root) ++ (parent_faults own s (field s at root) (field s at parent) ++ nodes_faults s (field s at nodes)))
      related-told =
          j1 ∙ (join-told (root_faults own s (field s at root) ++ parent_faults own s (field s at root) (field s at parent)) (nodes_faults s (field s at nodes)) (tr ∙ relatives_as) listed-told ∙
          ap least (append_assoc (root_faults own s (field s at root)) (parent_faults own s (field s at root) (field s at parent)) (nodes_faults s (field s at nodes))))

      pub device-told : d.told ≡ least (device_field_faults own s at)
      unfolding device_field_faults
      device-told =
          j5 ∙ join-told _ _ w.told
          (j4 ∙ join-told _ _ (th ∙ ap (λ (f : Option ℕ). least (homie_faults s at f)) homie-field)
          (j3 ∙ join-told _ _ (tv.told ∙ ap (λ (f : Option ℕ). least (version_faults s at f)) version-field)
          (j2 ∙ join-told _ _ (to ∙ others_as) related-told)))

      -- where nothing is told, the version was read
      read_told : d.told ≡ None → x.told ≡ None
      read_told e = (earlier-nothing x.told others (sym j3 ∙ (earlier-nothing h dated (sym j4 ∙ (earlier-nothing m.told required (sym j5 ∙ e)).1)).1)).0

      nodes-told : d.told ≡ None → a.told ≡ None
      nodes-told e = (earlier-nothing r a.told (sym j1 ∙ (earlier-nothing o related (sym j2 ∙ (earlier-nothing x.told others (sym j3 ∙ (earlier-nothing h dated (sym j4 ∙ (earlier-nothing m.told required (sym j5 ∙ e)).1)).1)).1)).1)).1

      version_is_lem : d.told ≡ None → stands (2 ^ 63) d.version ≡ number_of (version_in s (field s at version))
      unfolding number_of
      version_is_lem e = ap (stands (2 ^ 63)) dv ∙ sym (ap number_of (ap (version_in s) (sym version-field) ∙ tv.value (read_told e)))

      properties_are : d.told ≡ None → view s d.properties ≡ insert_all (declared s at) []
      unfolding declared
      properties_are e = ap (view s) dl ∙ (tl.list (nodes-told e) ∙ ap (λ (f : Option ℕ). insert_all (properties_of s (members_in s f)) []) nodes-field)

      shown_is : d.told ≡ None → shown s d (view s d.properties) ≡ described_in s at
      unfolding shown described_in
      shown_is e = rw (root-field, parent-field, version_is_lem e, properties_are e)

      few_are : leb d.properties.n properties_most ≡ true
      few_are = le-leb d.properties.n properties_most (rw dl tl.few)

      pub device-tells : Tells (device_field_faults own s at) s at d
      device-tells = record { told = device-told; declares = λ e. lists s d few_are ∙ ap gives (shown_is e) }

-- The description of every device declares what a valid one may, and its lanes hold valid payloads only.
use Rattle.std.specs.Prelude.{Option, None, Some}
use Prim.Native.Nat.{ℕ}
use mathlib.Core.Path.{◌≡◌, refl, sym, ap, ◌∙◌, subst}
use mathlib.Core.List.{List, [], ◌∷◌, map}
use mathlib.Core.Bool.{Bool, true, false, ◌&&◌, false≢true}
use Rattle.answer.specs.Answer.{Answer, refused, gives, and_then}
use Rattle.text.specs.Bytes.{eq_bytes, less_bytes}
use Rattle.text.proofs.Bytes.{both, and_both, or_cases, eq_bytes-true}
use Rattle.topic.specs.Form as form
use Rattle.properties.specs.Property as declaration
use Rattle.description.specs.Description.{Described, describe}
use Rattle.description.specs.Declares.{Declares}
use Rattle.description.proofs.Theorems.{declares}
use Rattle.book.specs.Book.{from}
use Rattle.rules.specs.declared.DeviceState.{DeviceState}
use Rattle.rules.specs.declared.LaneKind.{LaneKind}
use Rattle.rules.specs.declared.LaneKind.TheVariants.{Value, Target, Asked}
use Rattle.rules.specs.States.{state_worded}
use Rattle.rules.specs.Table.{Held, Property, Description, Device, Table, with_lane, properties_of}
use Rattle.rules.specs.Find.{find, change, remove, insert, is_named, find_property, change_property, in_description, in_device}
use Rattle.rules.specs.Handover.{republished}
use Rattle.rules.specs.Messages.{Message, is_empty, with_state, new_device, make_or_update, by_word, obey_state, with_description, redescribed, described_by, obey_description, held_by, fill, is_valid, value_rules, set_rules, target_rules, lane_rules, obey_lane, obey}
use Rattle.rules.specs.Rules.{rules}
use Rattle.rules.specs.Promises.{declared_in, holds_valid, lanes_valid, all_valid, Proper}
use Rattle.rules.proofs.Answers.{Given, given, given-require, given_then, given_choice}
use Rattle.rules.proofs.Taken.{message-given, from-holds}
use Rattle.rules.proofs.Handover.{successors-declared, successors-valid}

-- ---- what holds of each device, found, changed, taken out, put in

abbrev All : (Device → Type 0) → List Device → Type 0
All P [] = true ≡ true
All P (v ∷ vs) = P v × All P vs

module _ (P : Device → Type 0) where
  all_found : (id : List ℕ) (ds : List Device) (v : Device) → All P ds → find id ds ≡ gives v → P v × (v.id ≡ id)
  unfolding find
  all_found id [] v a e = absurd (false≢true (subst (Given (λ (u : Device). false ≡ true)) e refl))
  all_found id (u ∷ us) v a e = both (eq_bytes u.id id)
      (λ t. let i : u ≡ v = let g : gives u ≡ gives v = rw (t, find) at e in cc in subst (λ (w : Device). P w × (w.id ≡ id)) i (a.0, eq_bytes-true u.id id t))
      (λ t. all_found id us v a.1 (rw (t, find) at e))

  all-change : (id : List ℕ) (f : Device → Device) (ds : List Device) (v : Device) → find id ds ≡ gives v → P (f v) → All P ds → All P (change id f ds)
  unfolding find change
  all-change id f [] v e p a = refl
  all-change id f (u ∷ us) v e p a = both (eq_bytes u.id id)
      (λ t. let i : u ≡ v = let g : gives u ≡ gives v = rw (t, find) at e in cc in rw (t, change) (subst (λ (w : Device). P (f w)) (sym i) p, a.1))
      (λ t. rw (t, change) (a.0, all-change id f us v (rw (t, find) at e) p a.1))

  all_remove : (id : List ℕ) (ds : List Device) → All P ds → All P (remove id ds)
  unfolding remove
  all_remove id [] a = refl
  all_remove id (u ∷ us) a = both (eq_bytes u.id id) (λ t. rw (t, remove) a.1) (λ t. rw (t, remove) (a.0, all_remove id us a.1))

  all_insert : (w : Device) (ds : List Device) → P w → All P ds → All P (insert w ds)
  unfolding insert
  all_insert w [] p a = (p, refl)
  all_insert w (u ∷ us) p a = both (less_bytes w.id u.id) (λ t. rw (t, insert) (p, a)) (λ t. rw (t, insert) (a.0, all_insert w us p a.1))

-- ---- a lane filled

held_same : (k : LaneKind) (h : Option Held) (p : Property) (o : Option Held) → holds_valid (with_lane k h p) o ≡ holds_valid p o
unfolding holds_valid with_lane is_valid
held_same k h p None = refl
held_same Value h p (Some y) = refl
held_same Target h p (Some y) = refl
held_same Asked h p (Some y) = refl

lane-valid : (k : LaneKind) (h : Option Held) (p : Property) → holds_valid p h ≡ true → lanes_valid p ≡ true → lanes_valid (with_lane k h p) ≡ true
unfolding lanes_valid with_lane
lane-valid k h p g a =
    let s = and_both (holds_valid p p.value) (holds_valid p p.target && holds_valid p p.asked) a in
    let u = and_both (holds_valid p p.target) (holds_valid p p.asked) s.1 in go k s.0 u.0 u.1
  where
    three : {a b c : Bool} → a ≡ true → b ≡ true → c ≡ true → (a && (b && c)) ≡ true
    three p q r = rw (p, q, r)

    go : (k : LaneKind) → holds_valid p p.value ≡ true → holds_valid p p.target ≡ true → holds_valid p p.asked ≡ true → lanes_valid (with_lane k h p) ≡ true
    go Value a b c = three (held_same Value h p h ∙ g) (held_same Value h p p.target ∙ b) (held_same Value h p p.asked ∙ c)
    go Target a b c = three (held_same Target h p p.value ∙ a) (held_same Target h p h ∙ g) (held_same Target h p p.asked ∙ c)
    go Asked a b c = three (held_same Asked h p p.value ∙ a) (held_same Asked h p p.target ∙ b) (held_same Asked h p h ∙ g)

lanes-valid : (k : LaneKind) (h : Option Held) (node id : List ℕ) (ps : List Property) (q : Property) → find_property node id ps ≡ gives q → holds_valid q h ≡ true → all_valid ps ≡ true → all_valid (change_property node id (with_lane k h) ps) ≡ true
unfolding all_valid find_property change_property
lanes-valid k h node id [] q e g a = refl
lanes-valid k h node id (p ∷ ps) q e g a =
    let s = and_both (lanes_valid p) (all_valid ps) a in
    both (is_named node id p)
    (λ t. let i : p ≡ q = let j : gives p ≡ gives q = rw (t, find_property) at e in cc in rw (t, change_property) (rw (lane-valid k h p (rw i g) s.0) s.1))
    (λ t. rw (t, change_property) (rw s.0 (lanes-valid k h node id ps q (rw (t, find_property) at e) g s.1)))

same-declared : (k : LaneKind) (h : Option Held) (node id : List ℕ) (ps : List Property) → map (λ (p : Property). p.declared) (change_property node id (with_lane k h) ps) ≡ map (λ (p : Property). p.declared) ps
unfolding change_property with_lane
same-declared k h node id [] = refl
same-declared k h node id (p ∷ ps) = both (is_named node id p)
    (λ t. rw (t, change_property) (ap (λ (q : declaration.Property). q ∷ map (λ (p : Property). p.declared) ps) (go k)))
    (λ t. rw (t, change_property) (ap (λ (l : List declaration.Property). p.declared ∷ l) (same-declared k h node id ps)))
  where
    go : (k : LaneKind) → (with_lane k h p).declared ≡ p.declared
    go Value = refl
    go Target = refl
    go Asked = refl

-- what the lane rules let pass is valid, or empties the lane
held_ok : (q : Property) (x : Message) → (is_empty x.payload ≡ false → is_valid q x.payload ≡ true) → holds_valid q (held_by x) ≡ true
unfolding holds_valid held_by
held_ok q x h = both (is_empty x.payload) (λ t. rw (t, held_by)) (λ t. rw (t, held_by) (h t))

rules_held : (P : List Device → Type 0) (k : LaneKind) (q : Property) (x : Message) (a : Answer (List Device)) → (holds_valid q (held_by x) ≡ true → Given P a) → Given P (lane_rules k q x a)
unfolding lane_rules value_rules set_rules target_rules
rules_held P Value q x a h = given-require P _ 11 _ (λ i. given-require P _ 14 a (λ j. h (held_ok q x (λ n. or_cases (is_empty x.payload && q.declared.retained) (is_valid q x.payload) j (λ t. absurd (false≢true (sym n ∙ (and_both (is_empty x.payload) q.declared.retained t).0))) (λ t. t)))))
rules_held P Asked q x a h = given-require P _ 17 _ (λ i. given-require P _ 14 a (λ j. h (held_ok q x (λ n. j))))
rules_held P Target q x a h = given-require P _ 14 a (λ j. h (held_ok q x (λ n. or_cases (is_empty x.payload) (is_valid q x.payload) j (λ t. absurd (false≢true (sym n ∙ t))) (λ t. t))))

-- ---- a device

abbrev Good : Device → Type 0
Good v = (y : Description) → v.description ≡ Some y → Proper v.id y

none-some : {A : Type 0} {X : Type 0} {y : A} → None ≡ Some y → X
none-some {A} e = absurd (false≢true (subst is_none e refl))
  where
    is_none : Option A → Type 0
    is_none None = true ≡ true
    is_none (Some z) = false ≡ true

republished-proper : (id : List ℕ) (old : List Property) (x : Described) → Declares id x → Proper id (republished old x)
unfolding republished declared_in
republished-proper id old x h = record {
  declares = subst (λ (ps : List declaration.Property). Declares id (record { root = x.root; parent = x.parent; version = x.version; properties = ps })) (sym (successors-declared old x.properties)) h;
  lanes = successors-valid old x.properties;
}

described-proper : (id : List ℕ) (old : Option Description) (s : List ℕ) → Given (λ (o : Option Description). (y : Description) → o ≡ Some y → Proper id y) (described_by id old s)
unfolding described_by redescribed
described-proper id old s = given_choice Q (is_empty s) _ _ (λ y e. none-some e) (given_then Q (describe id s) _ (λ x e y i.
    let j : republished (properties_of old) x ≡ y = cc in subst (Proper id) j (republished-proper id (properties_of old) x (declares id s x e))))
  where
    Q : Option Description → Type 0
    Q o = (y : Description) → o ≡ Some y → Proper id y

lane-proper : (k : LaneKind) (h : Option Held) (node property : List ℕ) (v : Device) (q : Property) → find_property node property (properties_of v.description) ≡ gives q → holds_valid q h ≡ true → Good v → Good (in_device (change_property node property (with_lane k h)) v)
unfolding in_device in_description properties_of declared_in
lane-proper k h node property v q e g good = go v.description refl e
  where
    go : (o : Option Description) → v.description ≡ o → find_property node property (properties_of o) ≡ gives q → (y : Description) → in_description (change_property node property (with_lane k h)) o ≡ Some y → Proper v.id y
    go None i e y f = none-some f
    go (Some z) i e y f =
        let p = good z i in
        let z' : Description = record { root = z.root; parent = z.parent; version = z.version; properties = change_property node property (with_lane k h) z.properties } in
        let j : z' ≡ y = cc in
        subst (Proper v.id) j (record {
          declares = subst (λ (ps : List declaration.Property). Declares v.id (record { root = z.root; parent = z.parent; version = z.version; properties = ps })) (sym (same-declared k h node property z.properties)) p.declares;
          lanes = lanes-valid k h node property z.properties q e g p.lanes;
        })

-- ---- every message

module _ (d : ℕ) (x : Message) (ds : List Device) (all : All Good ds) where
  made-proper : (id : List ℕ) (s : DeviceState) (a : Answer Device) → find id ds ≡ a → Given (All Good) (make_or_update d id s x.time ds a)
  unfolding make_or_update
  made-proper id s (gives v) e = all-change Good id (with_state s x.time) ds v e (all_found Good id ds v all e).0 all
  made-proper id s (refused n) e = given-require (All Good) _ 13 _ (λ h. all_insert Good (new_device id s x.time) ds (λ y i. none-some i) all)

  worded-proper : (id : List ℕ) (s : Option DeviceState) → Given (All Good) (by_word d id x.time ds s)
  unfolding by_word
  worded-proper id None = refl
  worded-proper id (Some s) = made-proper id s (find id ds) refl

  state-proper : (id : List ℕ) → Given (All Good) (obey_state d id x ds)
  unfolding obey_state
  state-proper id = given_choice (All Good) (is_empty x.payload) _ _ (given_then (All Good) (find id ds) _ (λ v e. all_remove Good id ds all)) (worded-proper id (state_worded x.payload))

  description-proper : (id : List ℕ) → Given (All Good) (obey_description id x ds)
  unfolding obey_description
  description-proper id = given_then (All Good) (find id ds) _ (λ v e. given_then (All Good) (described_by id v.description x.payload) _ (λ o g.
      all-change Good id (with_description o) ds v e (λ y i. subst (λ (n : List ℕ). Proper n y) (sym (all_found Good id ds v all e).1) (given (λ (o : Option Description). (y : Description) → o ≡ Some y → Proper id y) (described-proper id v.description x.payload) g y i)) all))

  lanes-proper : (k : LaneKind) (id node property : List ℕ) → Given (All Good) (obey_lane k id node property x ds)
  unfolding obey_lane fill
  lanes-proper k id node property = given_then (All Good) (find id ds) _ (λ v e. given_then (All Good) (find_property node property (properties_of v.description)) _ (λ q g.
      rules_held (All Good) k q x _ (λ h. all-change Good id (in_device (change_property node property (with_lane k (held_by x)))) ds v e (lane-proper k (held_by x) node property v q g h (all_found Good id ds v all e).0) all)))

  unchanged-proper : (id : List ℕ) → Given (All Good) (and_then (find id ds) (λ (v : Device). gives ds))
  unchanged-proper id = given_then (All Good) (find id ds) _ (λ v e. all)

  obey-proper : (f : form.Form) → Given (All Good) (obey d x ds f)
  unfolding obey
  obey-proper (form.state id) = state-proper id
  obey-proper (form.description id) = description-proper id
  obey-proper (form.value id n p) = lanes-proper Value id n p
  obey-proper (form.set id n p) = lanes-proper Asked id n p
  obey-proper (form.target id n p) = lanes-proper Target id n p
  obey-proper (form.alert id a) = unchanged-proper id
  obey-proper (form.log id l) = unchanged-proper id
  obey-proper (form.broadcast ids) = all
  obey-proper (form.other id w ls) = unchanged-proper id

pub from-proper : (domain : List ℕ) (d : ℕ) (t : Table) (xs : List Message) → t.devices ≡ [] → (id : List ℕ) (v : Device) (y : Description) → find id (from (rules domain d) t xs).devices ≡ gives v → v.description ≡ Some y → Proper id y
from-proper domain d t xs n id v y e i =
    let a = from-holds domain d (λ u. All Good u.devices) (λ u x p. message-given domain d u x (All Good) (λ f g. obey-proper d x u.devices p f)) t xs (rw n refl) in
    let p = all_found Good id (from (rules domain d) t xs).devices v a e in
    subst (λ (m : List ℕ). Proper m y) p.1 (p.0 y i)

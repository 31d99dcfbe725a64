-- What a description hands on: valid payloads only, and all that it can where it is published again.
use Rattle.std.specs.Prelude.{Option, None, Some}
use Prim.Native.Nat.{ℕ}
use mathlib.Core.Path.{◌≡◌, refl, sym, ap, ap₂, ◌∙◌}
use mathlib.Core.List.{List, [], ◌∷◌, map}
use mathlib.Core.Bool.{Bool, true, false, ◌&&◌, ◌||◌, false≢true}
use Rattle.answer.specs.Answer.{Answer, refused, gives, and_then}
use Rattle.text.specs.Bytes.{eq_bytes, less_bytes}
use Rattle.text.proofs.Bytes.{both, and_both, or_cases, eq_bytes-refl, eq_bytes-true, eq_bytes_yes}
use Rattle.text.proofs.Order.{less_irreflexive, less_transitive}
use Rattle.properties.specs.Property as declaration
use Rattle.properties.specs.Property.{is_before}
use Rattle.properties.specs.Valid.{ascends_from, ascends}
use Rattle.description.specs.Description.{Described, describe}
use Rattle.rules.specs.declared.LaneKind.{LaneKind}
use Rattle.rules.specs.declared.LaneKind.TheVariants as lane
use Rattle.rules.specs.Table.{Held, Property, Description, Device, lane_of, properties_of, empty_lanes, new_description}
use Rattle.rules.specs.Find.{find, is_named, find_property, in_description, in_device}
use Rattle.rules.specs.Handover.{still_valid, kept_if, succeeding, successor, republished}
use Rattle.rules.specs.Messages.{is_empty, with_description, redescribed, described_by, is_valid}
use Rattle.rules.specs.Questions.{Value, a_lane}
use Rattle.rules.specs.Promises.{declared_in, holds_valid, lanes_valid, all_valid, settled, Proper}

-- ---- the order of properties

or-second : (a : Bool) {b : Bool} → b ≡ true → (a || b) ≡ true
or-second true e = refl
or-second false e = e

-- a property stands after another: its node's ID does, or it has the same and its own ID does
after-node : (p q : declaration.Property) → less_bytes p.node q.node ≡ true → is_before p q ≡ true
unfolding is_before
after-node p q e = rw e

after-id : (p q : declaration.Property) → p.node ≡ q.node → less_bytes p.id q.id ≡ true → is_before p q ≡ true
unfolding is_before
after-id p q e f = or-second (less_bytes p.node q.node) (rw (eq_bytes_yes p.node q.node e) f)

module _ {X : Type 0} (p q : declaration.Property) where
  before_cases : is_before p q ≡ true → (less_bytes p.node q.node ≡ true → X) → (p.node ≡ q.node → less_bytes p.id q.id ≡ true → X) → X
  unfolding is_before
  before_cases h f g = or_cases (less_bytes p.node q.node) (eq_bytes p.node q.node && less_bytes p.id q.id) h f
      (λ e. let k = and_both (eq_bytes p.node q.node) (less_bytes p.id q.id) e in g (eq_bytes-true p.node q.node k.0) k.1)

before_transitive : (p q r : declaration.Property) → is_before p q ≡ true → is_before q r ≡ true → is_before p r ≡ true
before_transitive p q r h k = before_cases p q h
    (λ a. before_cases q r k
    (λ b. after-node p r (less_transitive p.node q.node r.node a b))
    (λ e b. after-node p r (rw (sym e) a)))
    (λ d a. before_cases q r k
    (λ b. after-node p r (rw d b))
    (λ e b. after-id p r (d ∙ e) (less_transitive p.id q.id r.id a b)))

-- it has other IDs
before-apart : (p : Property) (q : declaration.Property) → is_before p.declared q ≡ true → is_named q.node q.id p ≡ false
unfolding is_named
before-apart p q h = both (eq_bytes p.declared.node q.node)
    (λ a. both (eq_bytes p.declared.id q.id)
    (λ b. let d = eq_bytes-true p.declared.node q.node a in let e = eq_bytes-true p.declared.id q.id b in
    absurd (before_cases p.declared q h (λ k. unequal d k) (λ _ k. unequal e k)))
    (λ b. rw (a, b)))
    (λ a. rw a)
  where
    unequal : {s t : List ℕ} → s ≡ t → less_bytes s t ≡ true → ⊥
    unequal {s} {t} e k = false≢true (sym (less_irreflexive t) ∙ rw e at k)

lower : (p q : declaration.Property) (ps : List declaration.Property) → is_before p q ≡ true → ascends_from q ps ≡ true → ascends_from p ps ≡ true
unfolding ascends_from
lower p q [] h k = refl
lower p q (r ∷ ps) h k = let s = and_both (is_before q r) (ascends_from r ps) k in rw (before_transitive p q r h s.0) s.1

ascends-tail : (p : declaration.Property) (ps : List declaration.Property) → ascends_from p ps ≡ true → ascends ps ≡ true
unfolding ascends ascends_from
ascends-tail p [] h = refl
ascends-tail p (q ∷ ps) h = (and_both (is_before p q) (ascends_from q ps) h).1

-- ---- what a property takes over

pub same-declared : (p : declaration.Property) (a : Answer Property) → (succeeding p a).declared ≡ p
unfolding succeeding
same-declared p (refused n) = refl
same-declared p (gives q) = refl

kept-valid : (q : Property) (b : Bool) (h : Option Held) → (b ≡ true → still_valid q.declared h ≡ true) → holds_valid q (kept_if b h) ≡ true
unfolding holds_valid kept_if still_valid is_valid
kept-valid q false h k = refl
kept-valid q true None k = refl
kept-valid q true (Some x) k = k refl

three : {a b c : Bool} → a ≡ true → b ≡ true → c ≡ true → (a && (b && c)) ≡ true
three p q r = rw (p, q, r)

-- "and the payload is valid under the new datatype and format"
taken-over-valid : (p : declaration.Property) (a : Answer Property) → lanes_valid (succeeding p a) ≡ true
unfolding lanes_valid succeeding holds_valid
taken-over-valid p (refused n) = refl
taken-over-valid p (gives q) =
    let r = succeeding p (gives q) in
    three
    (kept-valid r ((q.declared.retained && p.retained) && still_valid p q.value) q.value (λ e. (and_both (q.declared.retained && p.retained) (still_valid p q.value) e).1))
    (kept-valid r (still_valid p q.target) q.target (λ e. e))
    refl

module _ (old : List Property) where
  pub successors-declared : (ps : List declaration.Property) → map (λ (p : Property). p.declared) (map (successor old) ps) ≡ ps
  unfolding successor
  successors-declared [] = refl
  successors-declared (p ∷ ps) = ap₂ (λ (q : declaration.Property) (l : List declaration.Property). q ∷ l) (same-declared p (find_property p.node p.id old)) (successors-declared ps)

  pub successors-valid : (ps : List declaration.Property) → all_valid (map (successor old) ps) ≡ true
  unfolding successor all_valid
  successors-valid [] = refl
  successors-valid (p ∷ ps) = rw (taken-over-valid p (find_property p.node p.id old)) (successors-valid ps)

-- ---- a first description: nothing is handed on

none-handed : (ps : List declaration.Property) → map (successor []) ps ≡ empty_lanes ps
unfolding successor succeeding find_property empty_lanes
none-handed [] = refl
none-handed (p ∷ ps) = ap (λ (l : List Property). record { declared = p; value = None; target = None; asked = None } ∷ l) (none-handed ps)

pub first-bare : (x : Described) → republished [] x ≡ new_description x
unfolding republished new_description
first-bare x = ap (λ (ps : List Property). record { root = x.root; parent = x.parent; version = x.version; properties = ps }) (none-handed x.properties)

-- ---- the same description again

-- properties that stand after p are not found in it
skip : (p : Property) (qs : List Property) (xs : List declaration.Property) → ascends_from p.declared xs ≡ true → map (successor (p ∷ qs)) xs ≡ map (successor qs) xs
unfolding successor find_property ascends_from
skip p qs [] h = refl
skip p qs (x ∷ xs) h =
    let k = and_both (is_before p.declared x) (ascends_from x xs) h in
    ap₂ (λ (q : Property) (l : List Property). q ∷ l) (rw (before-apart p x k.0, find_property)) (skip p qs xs (lower p.declared x xs k.0 k.1))

kept-all : (p : Property) (h : Option Held) → holds_valid p h ≡ true → kept_if (still_valid p.declared h) h ≡ h
unfolding kept_if still_valid holds_valid is_valid
kept-all p None e = refl
kept-all p (Some x) e = rw e

kept-retained : (b : Bool) (p : Property) (h : Option Held) → holds_valid p h ≡ true → kept_if ((b && b) && still_valid p.declared h) h ≡ kept_if b h
unfolding kept_if
kept-retained true p h e = kept-all p h e
kept-retained false p h e = refl

named-itself : (p : Property) → is_named p.declared.node p.declared.id p ≡ true
unfolding is_named
named-itself p = rw (eq_bytes-refl p.declared.node, eq_bytes-refl p.declared.id)

taken-over : (p : Property) → lanes_valid p ≡ true → succeeding p.declared (gives p) ≡ settled p
unfolding succeeding settled lanes_valid
taken-over p e =
    let s = and_both (holds_valid p p.value) (holds_valid p p.target && holds_valid p p.asked) e in
    let u = and_both (holds_valid p p.target) (holds_valid p p.asked) s.1 in
    ap₂ (λ (v t : Option Held). record { declared = p.declared; value = v; target = t; asked = None }) (kept-retained p.declared.retained p p.value s.0) (kept-all p p.target u.0)

pub taken-over-all : (ps : List Property) → ascends (map (λ (p : Property). p.declared) ps) ≡ true → all_valid ps ≡ true → map (successor ps) (map (λ (p : Property). p.declared) ps) ≡ map settled ps
unfolding successor find_property ascends all_valid
taken-over-all [] h v = refl
taken-over-all (p ∷ ps) h v =
    let k = and_both (lanes_valid p) (all_valid ps) v in
    ap₂ (λ (q : Property) (l : List Property). q ∷ l)
    (rw (named-itself p, find_property) (taken-over p k.0))
    (skip p ps (map (λ (p : Property). p.declared) ps) h ∙ taken-over-all ps (ascends-tail p.declared (map (λ (p : Property). p.declared) ps) h) k.1)

-- a property that is settled is found as before
pub settled-found : {B : Type 0} (node id : List ℕ) (tell : Property → Answer B) (ps : List Property)
    → and_then (find_property node id (map settled ps)) tell ≡ and_then (find_property node id ps) (λ p. tell (settled p))
unfolding find_property and_then is_named settled
settled-found node id tell [] = refl
settled-found node id tell (p ∷ ps) = both (eq_bytes p.declared.node node && eq_bytes p.declared.id id)
    (λ e. rw (e, find_property))
    (λ e. rw (e, find_property) (settled-found node id tell ps))

-- ---- on a device and in its table

module _ (id : List ℕ) (v : Device) (y : Description) (i : v.description ≡ Some y) where
  pub again : Proper id y → (s : List ℕ) → is_empty s ≡ false → describe id s ≡ gives (declared_in y) → described_by id v.description s ≡ gives (in_description (map settled) (Some y))
  unfolding described_by redescribed and_then properties_of republished declared_in in_description
  again g s n e = rw (n, described_by) (rw (e, i) (ap (λ (ps : List Property). gives (Some (record { root = y.root; parent = y.parent; version = y.version; properties = ps }))) (taken-over-all y.properties g.declares.ascending g.lanes)))

  pub settled_device : with_description (in_description (map settled) (Some y)) v ≡ in_device (map settled) v
  unfolding in_device
  settled_device = ap (λ (o : Option Description). with_description (in_description (map settled) o) v) (sym i)

pub kept_target : (p : Property) → lane_of lane.Target (settled p) ≡ lane_of lane.Target p
unfolding lane_of settled
kept_target p = refl

pub kept-value : (p : Property) → p.declared.retained ≡ true → lane_of lane.Value (settled p) ≡ lane_of lane.Value p
unfolding lane_of settled kept_if
kept-value p e = rw e

pub found-retained : {a : Answer Property} {p q : Property} → a ≡ gives p → a ≡ gives q → p.declared.retained ≡ true → q.declared.retained ≡ true
found-retained {a} {p} {q} e f r = let j : gives p ≡ gives q = sym e ∙ f in let k : p ≡ q = cc in rw (sym k) r

-- a lane that settling keeps is asked for as before
module _ (k : LaneKind) (id node property : List ℕ) (v : Device) (y : Description) (i : v.description ≡ Some y) (ds es : List Device) where
  abbrev told : Property → Answer Value
  told p = gives (a_lane (lane_of k p))

  same-told : (a : Answer Property) → ((p : Property) → a ≡ gives p → lane_of k (settled p) ≡ lane_of k p) → and_then a (λ p. told (settled p)) ≡ and_then a told
  unfolding and_then
  same-told (refused n) h = refl
  same-told (gives p) h = ap (λ (o : Option Held). gives (a_lane o)) (h p refl)

  pub asked-again : find id ds ≡ gives v → find id es ≡ gives (in_device (map settled) v)
      → ((p : Property) → find_property node property y.properties ≡ gives p → lane_of k (settled p) ≡ lane_of k p)
      → and_then (find id es) (λ v. and_then (find_property node property (properties_of v.description)) told) ≡ and_then (find id ds) (λ v. and_then (find_property node property (properties_of v.description)) told)
  unfolding and_then in_device in_description properties_of
  asked-again e f h = rw (e, f, i) (settled-found node property told y.properties ∙ same-told (find_property node property y.properties) h)

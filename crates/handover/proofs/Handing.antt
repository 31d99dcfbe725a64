-- What is handed on, lane by lane and property by property, until the image has all of it.
use Rattle.std.specs.Prelude.{Option, None, Some}
use Prim.Native.Nat.{ℕ, zero, suc, ◌+◌, ◌≤◌, ◌<◌}
use native.Mathlib.Omega.{arith}
use native.Mathlib.Decide.{dec_lt}
use native.Mathlib.Numerals.{add-one}
use mathlib.Core.Path.{◌≡◌, refl, sym, ap, ap₂, ◌∙◌, subst}
use mathlib.Core.List.{List, [], ◌∷◌, map}
use mathlib.Core.Bool.{Bool, true, false, ◌&&◌, false≢true, and-false}
use lib.ListN.{length, get_or, take}
use lib.Dec.{leb}
use lib.Seq.{take_all}
use borrow.Author.Tests.{leb-true}
use Rattle.answer.specs.Answer.{Answer, refused, gives}
use Rattle.text.specs.Places.{bytes_at}
use Rattle.text.proofs.Bytes.{and_both}
use Rattle.little_endian.proofs.Put.{length-put}
use Rattle.memory.specs.Layout.{room_size}
use Rattle.payload.specs.Formats.{is_format}
use Rattle.payload.specs.Payloads.{is_payload, is_of, may_be}
use Rattle.properties.specs.Property as declaration
use Rattle.rules.specs.declared.LaneKind.{LaneKind}
use Rattle.rules.specs.declared.LaneKind.TheVariants.{Value, Target}
use Rattle.rules.specs.Table.{Held, Property, Description, Device, with_lane, properties_of, empty_lanes, new_description}
use Rattle.rules.specs.Find.{is_named, find_property, change_at, in_description, in_device}
use Rattle.rules.specs.Messages.{is_empty}
use Rattle.rules.specs.Handover.{still_valid, kept_if, succeeding, successor, republished}
use Rattle.rules.proofs.Ranks.{rank_of_property, property_rank, property-none, first-within}
use Rattle.device.specs.declared.Lane.{Lane}
use Rattle.device.specs.declared.Declared.{Declared}
use Rattle.device.specs.declared.Property as shown
use Rattle.device.specs.Layout.{properties_most, record_at, lane_at, lane_size, payload_most}
use Rattle.device.specs.Decode.{record_of, device_of}
use Rattle.device.specs.Meaning.{lane_number, chosen, held_in, declared_in, property_in, PropertyIn}
use Rattle.device.proofs.Theorems.{at_most, nth}
use Rattle.patch.specs.Makes.{LaneSet, held_since}
use Rattle.patch.proofs.Theorems.{lane_inside}
use Rattle.handover.specs.Contract.{HandedOver}
use Rattle.handover.specs.Parts.{handed, is_value_kept, takes, inherits_from, inherits, LaneHanded, LanesHanded, PropertyHanded}
use Rattle.handover.proofs.Changes.{change-same, change-not, change_twice, change_first, first_more, first-all, first-length, properties_in_lem, in_device_lem, in_device_twice, in_device-not}

-- ---- a payload that is valid stands whole in a lane

payload-size : (d : declaration.Property) (s : List ℕ) → is_payload d.datatype d.format s ≡ true → (1 ≤ length s) × (length s ≤ payload_most)
unfolding is_payload
payload-size d s e =
    let a = and_both (leb 1 (length s)) (leb (length s) payload_most && (may_be d.datatype s && (is_format d.datatype d.format && is_of d.datatype d.format s))) e in
    let b = and_both (leb (length s) payload_most) (may_be d.datatype s && (is_format d.datatype d.format && is_of d.datatype d.format s)) a.1 in
    (leb-true 1 (length s) a.0, leb-true (length s) payload_most b.0)

held_whole : (time : ℕ) (s : List ℕ) → 1 ≤ length s → length s ≤ payload_most → held_since time (take payload_most s) ≡ Some (record { time = time; payload = s })
unfolding held_since is_empty
held_whole time [] h k = absurd (omega arith)
held_whole time (b ∷ s) h k = rw (take_all payload_most (b ∷ s) k)

valid_held : (old : List ℕ) (lane : Lane) (d : declaration.Property) → still_valid d (held_in old (Some lane)) ≡ true → held_since lane.time (take payload_most (bytes_at old lane.payload)) ≡ held_in old (Some lane)
unfolding held_in still_valid
valid_held old lane d e = let k = payload-size d (bytes_at old lane.payload) e in held_whole lane.time (bytes_at old lane.payload) k.0 k.1

pub judged_empty : (image : List ℕ) (d : Declared) (old : List ℕ) (lane : Option Lane) → lane ≡ None → false ≡ still_valid (declared_in image d) (held_in old lane)
unfolding held_in still_valid
judged_empty image d old lane e = rw e refl

pub judged : (image : List ℕ) (d : Declared) (old : List ℕ) (lane : Option Lane) (l : Lane) (f s : List ℕ) (r : Bool) → lane ≡ Some l → f ≡ bytes_at image d.format → s ≡ bytes_at old l.payload
    → r ≡ is_payload d.datatype f s → r ≡ still_valid (declared_in image d) (held_in old lane)
unfolding declared_in held_in still_valid
judged image d old lane l f s r t ef es e = rw t (e ∙ ap₂ (is_payload d.datatype) ef es)

-- "is retained in both"
module _ (image : List ℕ) (p : shown.Property) (old : List ℕ) (q : shown.Property) where
  pub not-retained : q.declared.retained ≡ false → false ≡ is_value_kept (declared_in image p.declared) (property_in old q)
  unfolding is_value_kept declared_in property_in
  not-retained e = rw e

  pub no-longer-retained : p.declared.retained ≡ false → false ≡ is_value_kept (declared_in image p.declared) (property_in old q)
  unfolding is_value_kept declared_in property_in
  no-longer-retained e = rw (e, and-false q.declared.retained)

  pub retained_in-both : {r : Bool} {lane : Option Lane} → q.declared.retained ≡ true → p.declared.retained ≡ true → lane ≡ chosen Value q → r ≡ still_valid (declared_in image p.declared) (held_in old lane) → r ≡ is_value_kept (declared_in image p.declared) (property_in old q)
  unfolding is_value_kept declared_in property_in
  retained_in-both {r} {lane} a b e h = h ∙ ap (λ (l : Option Lane). still_valid (declared_in image p.declared) (held_in old l)) e ∙ sym (ap₂ (λ (x y : Bool). (x && y) && still_valid (declared_in image p.declared) (held_in old (chosen Value q))) a b)

-- ---- a lane

pub not-handed : (m : List ℕ) (i : ℕ) (kind : LaneKind) (kept : Bool) (old : List ℕ) (lane : Option Lane) → kept ≡ false → LaneHanded m i kind kept old lane m
unfolding handed
not-handed m i kind kept old lane e = subst (λ (b : Bool). LaneHanded m i kind b old lane m) (sym e) (record {
  long = refl;
  means = λ l k d v. sym (in_device_lem (change_at i (λ r. r)) (λ ps. ps) (device_of m) (change-not i (properties_of (device_of m).description)) ∙ in_device-not (device_of m));
})

-- nothing is handed on of an empty lane: its payload is not valid
pub none-handed : (m : List ℕ) (i : ℕ) (kind : LaneKind) (kept : Bool) (old : List ℕ) (lane : Option Lane) → kept ≡ true → lane ≡ None → LaneHanded m i kind kept old lane m
unfolding held_in still_valid
none-handed m i kind kept old lane t e = record {
  long = refl;
  means = λ l k d v. absurd (false≢true (ap (λ (o : Option Lane). still_valid d (held_in old o)) (sym e) ∙ v t));
}

module _ (m : List ℕ) (i : ℕ) (kind : LaneKind) (h : Option Held) (m' : List ℕ) (w : LaneSet m i kind h m') where
  pub set_long : length m' ≡ length m
  set_long = elim (dec_lt (length m) (lane_at i (lane_number kind) + lane_size)) as (λ _. length m' ≡ length m) [
    | yes k ↦ ap length (w.kept k)
    | no k ↦ ap length (w.written (omega arith)) ∙ length-put m (lane_at i (lane_number kind)) w.bytes (omega (arith, w.size))
  ]

  set-means : length m ≡ room_size → i < properties_most → device_of m' ≡ in_device (change_at i (with_lane kind h)) (device_of m)
  set-means l k = ap device_of (w.written (omega (arith, lane_inside i kind k))) ∙ (w.makes.makes i kind k).makes m l

pub was-handed : (m : List ℕ) (i : ℕ) (kind : LaneKind) (kept : Bool) (old s : List ℕ) (o : Option Lane) (lane : Lane) (m' : List ℕ) → kept ≡ true → o ≡ Some lane → s ≡ bytes_at old lane.payload
    → LaneSet m i kind (held_since lane.time (take payload_most s)) m' → LaneHanded m i kind kept old o m'
unfolding handed
was-handed m i kind kept old s o lane m' t f e w = rw (t, f) (record {
  long = set_long m i kind _ m' w;
  means = λ l k d v. set-means m i kind _ m' w l k
      ∙ ap (λ (o : Option Held). in_device (change_at i (with_lane kind o)) (device_of m)) (ap (λ (t : List ℕ). held_since lane.time (take payload_most t)) e ∙ valid_held old lane d (v refl));
})

-- ---- the lanes of a property

module _ (m : List ℕ) (i : ℕ) (p : shown.Property) (old : List ℕ) (q : shown.Property) (m₁ m₂ : List ℕ) where
  from-lanes : {value target : Bool} → value ≡ is_value_kept (declared_in m p.declared) (property_in old q) → target ≡ still_valid (declared_in m p.declared) (held_in old (chosen Target q))
      → LaneHanded m i Value value old (chosen Value q) m₁ → LaneHanded m₁ i Target target old (chosen Target q) m₂ → LanesHanded m i p old q m₂
  unfolding takes is_value_kept property_in
  from-lanes {value} {target} ev et a b = record {
    long = b.long ∙ a.long;
    means = λ l k.
        let d = declared_in m p.declared in
        let hv = held_in old (chosen Value q) in
        let ht = held_in old (chosen Target q) in
        let first = a.means l k d (λ t. (and_both ((property_in old q).declared.retained && d.retained) (still_valid d hv) (sym ev ∙ t)).1) in
        let second = b.means (a.long ∙ l) k d (λ t. sym et ∙ t) in
        second
        ∙ ap (in_device (change_at i (handed Target target ht))) first
        ∙ in_device_twice (change_at i (handed Value value hv)) (change_at i (handed Target target ht)) (device_of m)
        ∙ in_device_lem _ _ (device_of m) (change_twice i (handed Value value hv) (handed Target target ht) (properties_of (device_of m).description))
        ∙ ap₂ (λ (x y : Bool). in_device (change_at i (λ r. handed Target y ht (handed Value x hv r))) (device_of m)) ev et;
  }

  -- as the lanes were chosen
  pub both-handed : {keep-value keep-target : Bool} {value target : Option Lane} → value ≡ chosen Value q → target ≡ chosen Target q
      → keep-value ≡ is_value_kept (declared_in m p.declared) (property_in old q) → keep-target ≡ still_valid (declared_in m p.declared) (held_in old target)
      → LaneHanded m i Value keep-value old value m₁ → LaneHanded m₁ i Target keep-target old target m₂ → LanesHanded m i p old q m₂
  both-handed {keep-value} {keep-target} lv lt ev et a b =
      from-lanes ev (et ∙ ap (λ (l : Option Lane). still_valid (declared_in m p.declared) (held_in old l)) lt)
      (subst (λ (l : Option Lane). LaneHanded m i Value keep-value old l m₁) lv a)
      (subst (λ (l : Option Lane). LaneHanded m₁ i Target keep-target old l m₂) lt b)

-- ---- a property

module _ (m : List ℕ) (i : ℕ) (old : List ℕ) (p : shown.Property) (shows : PropertyIn m (record_of m (record_at i)) p) (node id : List ℕ) (j : ℕ) (is-node : node ≡ bytes_at m p.declared.node) (is-id : id ≡ bytes_at m p.declared.id) where
  abbrev new : List Property
  new = properties_of (device_of m).description

  abbrev olds : List Property
  olds = properties_of (device_of old).description

  module _ (place : j ≡ rank_of_property node id olds) where
    -- the property itself, by what is found
    here : (a : Answer Property) → find_property node id olds ≡ a → (z : Property) → i < length new → inherits olds (get_or new i z) ≡ inherits_from a (property_in m p)
    unfolding inherits property_in declared_in
    here a e z k =
        let r : get_or new i z ≡ property_in m p = nth m i z k ∙ sym shows.says in
        ap (inherits olds) r ∙ ap (λ (b : Answer Property). inherits_from b (property_in m p)) (ap₂ (λ (s t : List ℕ). find_property s t olds) (sym is-node) (sym is-id) ∙ e)

    changed : (a : Answer Property) → find_property node id olds ≡ a → (f : Property → Property) → f (property_in m p) ≡ inherits_from a (property_in m p) → in_device (change_at i f) (device_of m) ≡ in_device (change_at i (inherits olds)) (device_of m)
    changed a e f g = in_device_lem _ _ (device_of m) (change-same i f (inherits olds) new (λ z k. ap f (nth m i z k ∙ sym shows.says) ∙ g ∙ sym (here a e z k)))

    pub nothing-found : (j < length olds → ⊥) → PropertyHanded m i old m
    unfolding inherits_from
    nothing-found h = record {
      long = refl;
      means = λ l k.
          let e = property-none node id olds (omega (arith, h, place, first-within (is_named node id) olds)) in
          sym (in_device_lem (change_at i (λ r. r)) (λ ps. ps) (device_of m) (change-not i new) ∙ in_device-not (device_of m)) ∙ changed _ e (λ r. r) refl;
    }

    pub one_found : j < length olds → (q : shown.Property) → PropertyIn old (record_of old (record_at j)) q → (m' : List ℕ) → LanesHanded m i p old q m' → PropertyHanded m i old m'
    unfolding inherits_from property_in
    one_found h q o m' w = record {
      long = w.long;
      means = λ l k.
          let z : Property = property_in old q in
          let e : find_property node id olds ≡ gives z = property_rank node id olds z (rw (sym place) h) ∙ ap (λ (n : ℕ). gives (get_or olds n z)) (sym place) ∙ ap gives (nth old j z h ∙ sym o.says) in
          w.means l (omega (arith, at_most m)) ∙ changed (gives z) e (takes (declared_in m p.declared) z) refl;
    }

-- ---- all of them

-- the first i properties have taken over what is handed on
pub record Handing (m old : List ℕ) (i : ℕ) (m' : List ℕ) : Type 0 where
  pub long : length m' ≡ room_size
  pub means : device_of m' ≡ in_device (change_first i (inherits (properties_of (device_of old).description))) (device_of m)

pub handing-none : (m old : List ℕ) → length m ≡ room_size → Handing m old 0 m
unfolding change_first
handing-none m old l = record { long = l; means = sym (in_device-not (device_of m)) }

pub handing-more : (m old : List ℕ) (i : ℕ) (m₁ m₂ : List ℕ) → i < length (properties_of (device_of m).description) → Handing m old i m₁ → PropertyHanded m₁ i old m₂ → Handing m old (i + 1) m₂
unfolding change_first
handing-more m old i m₁ m₂ k h w =
    let f = inherits (properties_of (device_of old).description) in
    let ps = properties_of (device_of m).description in
    let n : length (properties_of (device_of m₁).description) ≡ length ps
    = ap (λ (v : Device). length (properties_of v.description)) h.means ∙ ap length (properties_in_lem (change_first i f) (none_first i f) (device_of m)) ∙ first-length i f ps in
    record {
      long = w.long ∙ h.long;
      means = w.means h.long (omega arith)
          ∙ ap (in_device (change_at i f)) h.means
          ∙ in_device_twice (change_first i f) (change_at i f) (device_of m)
          ∙ in_device_lem _ _ (device_of m) (first_more i f ps ∙ ap (λ (n : ℕ). change_first n f ps) (sym (add-one i)));
    }
  where
    none_first : (i : ℕ) (f : Property → Property) → change_first i f [] ≡ []
    none_first zero f = refl
    none_first (suc i) f = refl

-- empty lanes take over what the rule says
taken-over : (old : List Property) (d : declaration.Property) (a : Answer Property) → find_property d.node d.id old ≡ a
    → inherits old (record { declared = d; value = None; target = None; asked = None }) ≡ successor old d
unfolding inherits inherits_from takes is_value_kept handed with_lane successor succeeding kept_if
taken-over old d (refused n) e = rw e
taken-over old d (gives q) e = rw e (go ((q.declared.retained && d.retained) && still_valid d q.value) (still_valid d q.target))
  where
    go : (v t : Bool) → handed Target t q.target (handed Value v q.value (record { declared = d; value = None; target = None; asked = None }))
        ≡ record { declared = d; value = kept_if v q.value; target = kept_if t q.target; asked = None }
    go true true = refl
    go true false = refl
    go false true = refl
    go false false = refl

all-taken-over : (old : List Property) (ds : List declaration.Property) → map (inherits old) (empty_lanes ds) ≡ map (successor old) ds
unfolding empty_lanes
all-taken-over old [] = refl
all-taken-over old (d ∷ ds) = ap₂ (λ (p : Property) (l : List Property). p ∷ l) (taken-over old d (find_property d.node d.id old) refl) (all-taken-over old ds)

pub handed-over : (m old m' : List ℕ) (n : ℕ) → length m ≡ room_size → length (properties_of (device_of m).description) ≡ n → Handing m old n m' → HandedOver m old m'
unfolding in_device in_description new_description republished properties_of
handed-over m old m' n long l h = record {
  long = h.long ∙ sym long;
  means = λ x e.
      let olds = properties_of (device_of old).description in
      let c : length (empty_lanes x.properties) ≡ n = ap (λ (y : Option Description). length (properties_of y)) (sym e) ∙ l in
      ap (λ (v : Device). v.description) h.means
      ∙ ap (in_description (change_first n (inherits olds))) e
      ∙ ap (λ (ps : List Property). Some (record { root = x.root; parent = x.parent; version = x.version; properties = ps }))
      (first-all n (inherits olds) (empty_lanes x.properties) (omega arith) ∙ all-taken-over olds x.properties);
}

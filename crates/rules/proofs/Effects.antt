-- What a taken message changes, and what it leaves.
use Rattle.std.specs.Prelude.{Option, None, Some}
use Prim.Native.Nat.{ℕ, suc}
use mathlib.Core.Path.{◌≡◌, refl, sym, ap, ◌∙◌, subst}
use mathlib.Core.List.{List, [], ◌∷◌, map}
use mathlib.Core.Bool.{true, false, false≢true}
use lib.ListN.{length}
use Rattle.answer.specs.Answer.{Answer, refused, gives, and_then, only, Refusal}
use Rattle.text.specs.Bytes.{eq_bytes, less_bytes}
use Rattle.text.proofs.Bytes.{both, eq_bytes-true, eq_bytes_yes, eq_bytes_no}
use Rattle.topic.specs.Form as form
use Rattle.rules.specs.declared.DeviceState.{DeviceState}
use Rattle.rules.specs.declared.LaneKind.{LaneKind}
use Rattle.rules.specs.declared.LaneKind.TheVariants.{Value, Target, Asked}
use Rattle.rules.specs.States.{state_worded}
use Rattle.rules.specs.Table.{Held, Property, Description, Device, lane_of, with_lane, properties_of}
use Rattle.rules.specs.Find.{find, change, remove, insert, is_named, find_property, change_property, in_description, in_device}
use Rattle.rules.specs.Messages.{Message, is_empty, with_state, new_device, make_or_update, by_word, obey_state, with_description, described_by, obey_description, held_by, fill, obey_lane, obey}
use Rattle.rules.specs.Questions as ask
use Rattle.rules.specs.Promises.{ascends, updated, without, device_in, is_report}
use Rattle.rules.proofs.Answers.{Given, given-require, given_then, given_choice}
use Rattle.rules.proofs.Order.{absent-first, removed, remove_frees}
use Rattle.rules.proofs.Taken.{lane-given}

-- ---- every other device stays

module _ (id other : List ℕ) (apart : id ≡ other → ⊥) where
  unlike : (v : Device) → eq_bytes v.id id ≡ true → eq_bytes v.id other ≡ false
  unlike v e = eq_bytes_no v.id other (λ q. apart (sym (eq_bytes-true v.id id e) ∙ q))

  change-others : (f : Device → Device) → ((v : Device) → (f v).id ≡ v.id) → (ds : List Device) → find other (change id f ds) ≡ find other ds
  unfolding find change
  change-others f keeps [] = refl
  change-others f keeps (v ∷ vs) = both (eq_bytes v.id id)
      (λ t. let no = unlike v t in rw (t, change) (rw (keeps v, no, find)))
      (λ t. rw (t, change) (both (eq_bytes v.id other) (λ k. rw (k, find)) (λ k. rw (k, find) (change-others f keeps vs))))

  remove-others : (ds : List Device) → find other (remove id ds) ≡ find other ds
  unfolding find remove
  remove-others [] = refl
  remove-others (v ∷ vs) = both (eq_bytes v.id id)
      (λ t. let no = unlike v t in rw (t, remove) (rw (no, find)))
      (λ t. rw (t, remove) (both (eq_bytes v.id other) (λ k. rw (k, find)) (λ k. rw (k, find) (remove-others vs))))

  insert-others : (w : Device) → w.id ≡ id → (ds : List Device) → find other (insert w ds) ≡ find other ds
  unfolding find insert
  insert-others w e [] = let no = unlike w (eq_bytes_yes w.id id e) in rw (no, find)
  insert-others w e (v ∷ vs) = both (less_bytes w.id v.id)
      (λ t. let no = unlike w (eq_bytes_yes w.id id e) in rw (t, insert) (rw (no, find)))
      (λ t. rw (t, insert) (both (eq_bytes v.id other) (λ k. rw (k, find)) (λ k. rw (k, find) (insert-others w e vs))))

  module _ (d : ℕ) (x : Message) (ds : List Device) where
    abbrev Stays : List Device → Type 0
    Stays es = find other es ≡ find other ds

    made-others : (s : DeviceState) (a : Answer Device) → Given Stays (make_or_update d id s x.time ds a)
    unfolding make_or_update
    made-others s (gives v) = change-others (with_state s x.time) (λ u. refl) ds
    made-others s (refused n) = given-require Stays _ 13 _ (λ h. insert-others (new_device id s x.time) refl ds)

    worded-others : (s : Option DeviceState) → Given Stays (by_word d id x.time ds s)
    unfolding by_word
    worded-others None = refl
    worded-others (Some s) = made-others s (find id ds)

    state-others : Given Stays (obey_state d id x ds)
    unfolding obey_state
    state-others = given_choice Stays (is_empty x.payload) _ _ (given_then Stays (find id ds) _ (λ v e. remove-others ds)) (worded-others (state_worded x.payload))

    description-others : Given Stays (obey_description id x ds)
    unfolding obey_description
    description-others = given_then Stays (find id ds) _ (λ v e. given_then Stays (described_by id v.description x.payload) _ (λ y g. change-others (with_description y) (λ u. refl) ds))

    lane-others : (k : LaneKind) (node property : List ℕ) → Given Stays (obey_lane k id node property x ds)
    unfolding obey_lane fill in_device
    lane-others k node property = given_then Stays (find id ds) _ (λ v e. given_then Stays (find_property node property (properties_of v.description)) _ (λ p g.
        lane-given Stays k p x _ (change-others (in_device (change_property node property (with_lane k (held_by x)))) (λ u. refl) ds)))

module _ (d : ℕ) (x : Message) (ds : List Device) where
  pub obey-others : (f : form.Form) (other : List ℕ) → (device_in f ≡ Some other → ⊥) → Given (λ (es : List Device). find other es ≡ find other ds) (obey d x ds f)
  unfolding obey device_in
  obey-others (form.state id) other n = state-others id other (λ e. n (ap Some e)) d x ds
  obey-others (form.description id) other n = description-others id other (λ e. n (ap Some e)) d x ds
  obey-others (form.value id a b) other n = lane-others id other (λ e. n (ap Some e)) d x ds Value a b
  obey-others (form.set id a b) other n = lane-others id other (λ e. n (ap Some e)) d x ds Asked a b
  obey-others (form.target id a b) other n = lane-others id other (λ e. n (ap Some e)) d x ds Target a b
  obey-others (form.alert id a) other n = given_then (λ (es : List Device). find other es ≡ find other ds) (find id ds) _ (λ v e. refl)
  obey-others (form.log id l) other n = given_then (λ (es : List Device). find other es ≡ find other ds) (find id ds) _ (λ v e. refl)
  obey-others (form.broadcast ids) other n = refl
  obey-others (form.other id w ls) other n = given_then (λ (es : List Device). find other es ≡ find other ds) (find id ds) _ (λ v e. refl)

  pub obey_report : (f : form.Form) → is_report f ≡ true → Given (λ (es : List Device). es ≡ ds) (obey d x ds f)
  unfolding obey is_report
  obey_report (form.state id) e = absurd (false≢true e)
  obey_report (form.description id) e = absurd (false≢true e)
  obey_report (form.value id n p) e = absurd (false≢true e)
  obey_report (form.set id n p) e = absurd (false≢true e)
  obey_report (form.target id n p) e = absurd (false≢true e)
  obey_report (form.alert id a) e = given_then (λ (es : List Device). es ≡ ds) (find id ds) _ (λ v i. refl)
  obey_report (form.log id l) e = given_then (λ (es : List Device). es ≡ ds) (find id ds) _ (λ v i. refl)
  obey_report (form.broadcast ids) e = refl
  obey_report (form.other id w ls) e = given_then (λ (es : List Device). es ≡ ds) (find id ds) _ (λ v i. refl)

-- ---- a lane's message leaves all but the lanes of its kind

module _ (k : LaneKind) (h : Option Held) where
  forgotten : (p : Property) → with_lane k None (with_lane k h p) ≡ with_lane k None p
  unfolding with_lane
  forgotten p = go k
    where
      go : (k : LaneKind) → with_lane k None (with_lane k h p) ≡ with_lane k None p
      go Value = refl
      go Target = refl
      go Asked = refl

  module _ (node property : List ℕ) where
    properties_forgotten : (ps : List Property) → map (with_lane k None) (change_property node property (with_lane k h) ps) ≡ map (with_lane k None) ps
    unfolding change_property
    properties_forgotten [] = refl
    properties_forgotten (p ∷ ps) = both (is_named node property p)
        (λ t. rw (t, change_property) (ap (λ (q : Property). q ∷ map (with_lane k None) ps) (forgotten p)))
        (λ t. rw (t, change_property) (ap (λ (l : List Property). with_lane k None p ∷ l) (properties_forgotten ps)))

    device_forgotten : (v : Device) → in_device (map (with_lane k None)) (in_device (change_property node property (with_lane k h)) v) ≡ in_device (map (with_lane k None)) v
    unfolding in_device in_description
    device_forgotten v = ap (λ (y : Option Description). with_description y v) (go v.description)
      where
        go : (y : Option Description) → in_description (map (with_lane k None)) (in_description (change_property node property (with_lane k h)) y) ≡ in_description (map (with_lane k None)) y
        go None = refl
        go (Some z) = ap (λ (ps : List Property). Some (record { root = z.root; parent = z.parent; version = z.version; properties = ps })) (properties_forgotten z.properties)

    fill_forgotten : (id : List ℕ) (ds : List Device) → without k (change id (in_device (change_property node property (with_lane k h))) ds) ≡ without k ds
    unfolding without change
    fill_forgotten id [] = refl
    fill_forgotten id (v ∷ vs) = both (eq_bytes v.id id)
        (λ t. rw (t, change) (ap (λ (w : Device). w ∷ map (in_device (map (with_lane k None))) vs) (device_forgotten v)))
        (λ t. rw (t, change) (ap (λ (l : List Device). in_device (map (with_lane k None)) v ∷ l) (fill_forgotten id vs)))

pub lane_forgotten : (k : LaneKind) (id node property : List ℕ) (x : Message) (ds : List Device) → Given (λ (es : List Device). without k es ≡ without k ds) (obey_lane k id node property x ds)
unfolding obey_lane fill
lane_forgotten k id node property x ds = given_then P (find id ds) _ (λ v e. given_then P (find_property node property (properties_of v.description)) _ (λ p g. lane-given P k p x _ (fill_forgotten k (held_by x) node property id ds)))
  where
    P : List Device → Type 0
    P es = without k es ≡ without k ds

-- ---- what the questions on other lanes are answered stays

pub other-lane : (j k : LaneKind) (h : Option Held) (p : Property) → (j ≡ k → ⊥) → lane_of j (with_lane k h p) ≡ lane_of j p
unfolding lane_of with_lane
other-lane Value Value h p n = absurd (n refl)
other-lane Value Target h p n = refl
other-lane Value Asked h p n = refl
other-lane Target Value h p n = refl
other-lane Target Target h p n = absurd (n refl)
other-lane Target Asked h p n = refl
other-lane Asked Value h p n = refl
other-lane Asked Target h p n = refl
other-lane Asked Asked h p n = absurd (n refl)

abbrev IsValue : LaneKind → Type 0
IsValue Value = true ≡ true
IsValue Target = false ≡ true
IsValue Asked = false ≡ true

pub value-asked : Value ≡ Asked → ⊥
value-asked e = false≢true (subst IsValue e refl)

pub value-target : Value ≡ Target → ⊥
value-target e = false≢true (subst IsValue e refl)

same-lane : (k : LaneKind) (h : Option Held) (p : Property) → lane_of k (with_lane k h p) ≡ h
unfolding lane_of with_lane
same-lane Value h p = refl
same-lane Target h p = refl
same-lane Asked h p = refl

same_name : (k : LaneKind) (h : Option Held) (a b : List ℕ) (p : Property) → is_named a b (with_lane k h p) ≡ is_named a b p
unfolding is_named with_lane
same_name Value h a b p = refl
same_name Target h a b p = refl
same_name Asked h a b p = refl

-- of the device, or the property, that is found, one that changed is told alike
module _ {B : Type 0} (id : List ℕ) (f : Device → Device) (keeps : (v : Device) → (f v).id ≡ v.id) (tell : Device → Answer B) (alike : (v : Device) → tell (f v) ≡ tell v) (a : List ℕ) where
  pub told-change : (ds : List Device) → and_then (find a (change id f ds)) tell ≡ and_then (find a ds) tell
  unfolding find change and_then
  told-change [] = refl
  told-change (v ∷ vs) = both (eq_bytes v.id id)
      (λ t. rw (t, change) (both (eq_bytes v.id a) (λ k. rw (keeps v, k, find) (alike v)) (λ k. rw (keeps v, k, find))))
      (λ t. rw (t, change) (both (eq_bytes v.id a) (λ k. rw (k, find)) (λ k. rw (k, find) (told-change vs))))

module _ {B : Type 0} (k : LaneKind) (h : Option Held) (node property : List ℕ) (tell : Property → Answer B) (alike : (p : Property) → tell (with_lane k h p) ≡ tell p) (a b : List ℕ) where
  told-property : (ps : List Property) → and_then (find_property a b (change_property node property (with_lane k h) ps)) tell ≡ and_then (find_property a b ps) tell
  unfolding find_property change_property and_then
  told-property [] = refl
  told-property (p ∷ ps) = both (is_named node property p)
      (λ t. rw (t, change_property) (both (is_named a b p) (λ e. rw (same_name k h a b p, e, find_property) (alike p)) (λ e. rw (same_name k h a b p, e, find_property))))
      (λ t. rw (t, change_property) (both (is_named a b p) (λ e. rw (e, find_property)) (λ e. rw (e, find_property) (told-property ps))))

  told_device : (v : Device) → and_then (find_property a b (properties_of (in_device (change_property node property (with_lane k h)) v).description)) tell ≡ and_then (find_property a b (properties_of v.description)) tell
  unfolding in_device in_description properties_of
  told_device v = go v.description
    where
      go : (y : Option Description) → and_then (find_property a b (properties_of (in_description (change_property node property (with_lane k h)) y))) tell ≡ and_then (find_property a b (properties_of y)) tell
      go None = refl
      go (Some z) = told-property z.properties

-- the answer to a question about a lane
abbrev lane_asked : (a b c : List ℕ) → LaneKind → List Device → Answer ask.Value
lane_asked a b c j ds = and_then (find a ds) (λ (v : Device). and_then (find_property b c (properties_of v.description)) (λ (q : Property). gives (ask.a_lane (lane_of j q))))

module _ (j k : LaneKind) (apart : j ≡ k → ⊥) (x : Message) (ds : List Device) (a b c : List ℕ) where
  pub lane-others-asked : (id node property : List ℕ) → Given (λ (es : List Device). lane_asked a b c j es ≡ lane_asked a b c j ds) (obey_lane k id node property x ds)
  unfolding obey_lane fill in_device
  lane-others-asked id node property = given_then P (find id ds) _ (λ v e. given_then P (find_property node property (properties_of v.description)) _ (λ p g. lane-given P k p x _
      (told-change id (in_device (change_property node property (with_lane k (held_by x)))) (λ u. refl) tell (λ u. told_device k (held_by x) node property (λ q. gives (ask.a_lane (lane_of j q))) (λ q. ap (λ (o : Option Held). gives (ask.a_lane o)) (other-lane j k (held_by x) q apart)) b c u) a ds)))
    where
      P : List Device → Type 0
      P es = lane_asked a b c j es ≡ lane_asked a b c j ds

      tell : Device → Answer ask.Value
      tell v = and_then (find_property b c (properties_of v.description)) (λ (q : Property). gives (ask.a_lane (lane_of j q)))

-- ---- what was filled is there

changed : (id : List ℕ) (f : Device → Device) → ((v : Device) → (f v).id ≡ v.id) → (ds : List Device) (v : Device) → find id ds ≡ gives v → find id (change id f ds) ≡ gives (f v)
unfolding find change
changed id f keeps [] v e = absurd (false≢true (subst (Given (λ (u : Device). false ≡ true)) e refl))
changed id f keeps (u ∷ us) v e = both (eq_bytes u.id id)
    (λ t. let i : u ≡ v = let g : gives u ≡ gives v = rw (t, find) at e in cc in rw (t, change) (rw (keeps u, t, find) (ap (λ (w : Device). gives (f w)) i)))
    (λ t. rw (t, change) (rw (t, find) (changed id f keeps us v (rw (t, find) at e))))

changed-property : (k : LaneKind) (h : Option Held) (node property : List ℕ) (ps : List Property) (p : Property) → find_property node property ps ≡ gives p → find_property node property (change_property node property (with_lane k h) ps) ≡ gives (with_lane k h p)
unfolding find_property change_property
changed-property k h node property [] p e = absurd (false≢true (subst (Given (λ (u : Property). false ≡ true)) e refl))
changed-property k h node property (q ∷ qs) p e = both (is_named node property q)
    (λ t. let i : q ≡ p = let g : gives q ≡ gives p = rw (t, find_property) at e in cc in rw (t, change_property) (rw (same_name k h node property q, t, find_property) (ap (λ (w : Property). gives (with_lane k h w)) i)))
    (λ t. rw (t, change_property) (rw (t, find_property) (changed-property k h node property qs p (rw (t, find_property) at e))))

properties-changed : (k : LaneKind) (h : Option Held) (node property : List ℕ) (y : Option Description) → properties_of (in_description (change_property node property (with_lane k h)) y) ≡ change_property node property (with_lane k h) (properties_of y)
unfolding properties_of in_description change_property
properties-changed k h node property None = refl
properties-changed k h node property (Some z) = refl

inserted : (w : Device) (ds : List Device) (n : Refusal) → find w.id ds ≡ refused n → find w.id (insert w ds) ≡ gives w
unfolding find insert
inserted w [] n e = rw (eq_bytes_yes w.id w.id refl, find)
inserted w (v ∷ vs) n e = let m = absent-first w.id v vs n e in both (less_bytes w.id v.id)
    (λ t. rw (t, insert) (rw (eq_bytes_yes w.id w.id refl, find)))
    (λ t. rw (t, insert) (rw (m.0, find) (inserted w vs n m.1)))

filled-word : (s : List ℕ) (v : DeviceState) → state_worded s ≡ Some v → is_empty s ≡ false
unfolding is_empty state_worded eq_bytes
filled-word [] v e = absurd (false≢true (subst is_none e refl))
  where
    is_none : Option DeviceState → Type 0
    is_none None = true ≡ true
    is_none (Some w) = false ≡ true
filled-word (b ∷ s) v e = refl

module _ (d : ℕ) (x : Message) (ds : List Device) (id : List ℕ) where
  -- "a state word makes or updates the device"
  pub state-made : (s : DeviceState) → state_worded x.payload ≡ Some s → Given (λ (es : List Device). find id es ≡ gives (updated id s x.time (find id ds))) (obey_state d id x ds)
  unfolding obey_state by_word make_or_update updated
  state-made s e = rw (filled-word x.payload s e, obey_state) (rw e (go (find id ds) refl))
    where
      P : List Device → Type 0
      P es = find id es ≡ gives (updated id s x.time (find id ds))

      go : (a : Answer Device) → find id ds ≡ a → Given P (make_or_update d id s x.time ds a)
      go (gives v) i = rw i (changed id (with_state s x.time) (λ u. refl) ds v i)
      go (refused m) i = given-require P _ 13 _ (λ h. rw i (inserted (new_device id s x.time) ds m i))

  -- "empty payload removes it"
  pub state_removed : ascends ds ≡ true → is_empty x.payload ≡ true → Given (λ (es : List Device). find id es ≡ refused (only 12)) (obey_state d id x ds)
  unfolding obey_state
  state_removed h e = rw (e, obey_state) (given_then (λ (es : List Device). find id es ≡ refused (only 12)) (find id ds) _ (λ v i. removed id ds h))

  -- ".. and frees its room for any other"
  pub state_freed : is_empty x.payload ≡ true → Given (λ (es : List Device). suc (length es) ≡ length ds) (obey_state d id x ds)
  unfolding obey_state
  state_freed e = rw (e, obey_state) (given_then (λ (es : List Device). suc (length es) ≡ length ds) (find id ds) _ (λ v i. remove_frees id ds v i))

  -- a state word leaves the lanes of every device that was there
  pub state-lanes : (s : DeviceState) → state_worded x.payload ≡ Some s → (a b c : List ℕ) (k : LaneKind) (w : Device) → find a ds ≡ gives w → Given (λ (es : List Device). lane_asked a b c k es ≡ lane_asked a b c k ds) (obey_state d id x ds)
  unfolding obey_state by_word make_or_update
  state-lanes s e a b c k w f = rw (filled-word x.payload s e, obey_state) (rw e (go (find id ds) refl))
    where
      P : List Device → Type 0
      P es = lane_asked a b c k es ≡ lane_asked a b c k ds

      tell : Device → Answer ask.Value
      tell v = and_then (find_property b c (properties_of v.description)) (λ (q : Property). gives (ask.a_lane (lane_of k q)))

      go : (r : Answer Device) → find id ds ≡ r → Given P (make_or_update d id s x.time ds r)
      go (gives v) i = told-change id (with_state s x.time) (λ u. refl) tell (λ u. refl) a ds
      go (refused m) i = given-require P _ 13 _ (λ h. ap (λ (r : Answer Device). and_then r tell) (insert-others id a
          (λ q. false≢true (subst (Given (λ (u : Device). false ≡ true)) (sym i ∙ (ap (λ (l : List ℕ). find l ds) q ∙ f)) refl)) (new_device id s x.time) refl ds))

  -- "description: replaces what the device has"
  pub description-changed : (v : Device) (y : Option Description) → find id ds ≡ gives v → described_by id v.description x.payload ≡ gives y → Given (λ (es : List Device). find id es ≡ gives (with_description y v)) (obey_description id x ds)
  unfolding obey_description and_then
  description-changed v y e g = rw (e, g) (changed id (with_description y) (λ u. refl) ds v e)

  -- "fill that lane; empty payload empties it"
  pub lane-filled : (k : LaneKind) (node property : List ℕ) → Given (λ (es : List Device). lane_asked id node property k es ≡ gives (ask.a_lane (held_by x))) (obey_lane k id node property x ds)
  unfolding obey_lane fill in_device and_then
  lane-filled k node property = given_then P (find id ds) _ (λ v e. given_then P (find_property node property (properties_of v.description)) _ (λ p g. lane-given P k p x _
      (rw (changed id (in_device (change_property node property (with_lane k (held_by x)))) (λ u. refl) ds v e)
      (rw (properties-changed k (held_by x) node property v.description, changed-property k (held_by x) node property (properties_of v.description) p g)
      (ap (λ (o : Option Held). gives (ask.a_lane o)) (same-lane k (held_by x) p))))))
    where
      P : List Device → Type 0
      P es = lane_asked id node property k es ≡ gives (ask.a_lane (held_by x))

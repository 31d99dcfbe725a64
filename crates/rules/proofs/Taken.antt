-- What a message that is taken has passed, and what holds of every table that messages make.
use Rattle.std.specs.Prelude.{Option, None, Some}
use Prim.Native.Nat.{ℕ, ◌≤◌}
use native.Mathlib.Omega.{arith}
use mathlib.Core.Path.{◌≡◌, refl, subst}
use mathlib.Core.List.{List, [], ◌∷◌}
use mathlib.Core.Bool.{true}
use lib.ListN.{length}
use borrow.Author.Tests.{leb-true, ltb-true}
use Rattle.answer.specs.Answer.{Answer, refused, gives, and_then}
use Rattle.text.specs.Ids.{is_id}
use Rattle.topic.specs.Form as form
use Rattle.topic.specs.Topics.{read_topic}
use Rattle.topic.specs.Writing.{valid}
use Rattle.topic.proofs.Theorems.{write_read}
use Rattle.book.specs.Book.{next, from}
use Rattle.rules.specs.declared.DeviceState.{DeviceState}
use Rattle.rules.specs.declared.LaneKind.{LaneKind}
use Rattle.rules.specs.declared.LaneKind.TheVariants.{Value, Target, Asked}
use Rattle.rules.specs.States.{state_worded}
use Rattle.rules.specs.Table.{Property, Device, Table, with_lane, properties_of}
use Rattle.rules.specs.Find.{find, find_property, change_property, in_device}
use Rattle.rules.specs.Messages.{Message, is_empty, with_state, new_device, make_or_update, by_word, obey_state, with_description, described_by, obey_description, held_by, fill, value_rules, set_rules, target_rules, lane_rules, obey_lane, obey, is_due, admitted_form, message}
use Rattle.rules.specs.Rules.{rules, outcome}
use Rattle.rules.specs.Promises.{Invariant, NotBefore}
use Rattle.rules.proofs.Answers.{Given, given, given-require, given_then, given_choice}
use Rattle.rules.proofs.Order.{change_orderly, remove_orderly, insert_orderly}

-- ---- the form of a message

-- the rules 7 to 11 for forms with a fixed flag
record Passed (domain : List ℕ) (t : Table) (x : Message) (f : form.Form) : Type 0 where
  pub due : is_due t.last x.time ≡ true
  pub read : read_topic domain x.topic ≡ gives f

form-given : (domain : List ℕ) (t : Table) (x : Message) → Given (Passed domain t x) (admitted_form domain t x)
unfolding admitted_form
form-given domain t x = given-require P _ 7 _ (λ due. given_then P (read_topic domain x.topic) _ (λ f e. given-require P _ 10 _ (λ h. given-require P _ 11 _ (λ k. record { due = due; read = e }))))
  where
    P : form.Form → Type 0
    P f = Passed domain t x f

form-valid : (domain : List ℕ) (t : Table) (x : Message) (f : form.Form) → admitted_form domain t x ≡ gives f → valid f ≡ true
form-valid domain t x f e = (write_read domain x.topic f (given (Passed domain t x) (form-given domain t x) e).read).1

-- ---- the lane rules let pass what they are given

pub lane-given : (P : List Device → Type 0) (k : LaneKind) (p : Property) (x : Message) (a : Answer (List Device)) → Given P a → Given P (lane_rules k p x a)
unfolding lane_rules value_rules set_rules target_rules
lane-given P Value p x a h = given-require P _ 11 _ (λ i. given-require P _ 14 a (λ j. h))
lane-given P Asked p x a h = given-require P _ 17 _ (λ i. given-require P _ 14 a (λ j. h))
lane-given P Target p x a h = given-require P _ 14 a (λ j. h)

-- ---- a message, given what holds of obeying its form

module _ (domain : List ℕ) (d : ℕ) (t : Table) (x : Message) where
  pub message-given : (P : List Device → Type 0) → ((f : form.Form) → admitted_form domain t x ≡ gives f → Given P (obey d x t.devices f)) → Given (λ (u : Table). P u.devices) (message domain d t x)
  unfolding message
  message-given P h = given_then Q (admitted_form domain t x) _ (λ f e. given_then Q (obey d x t.devices f) _ (λ ds g. given P (h f e) g))
    where
      Q : Table → Type 0
      Q u = P u.devices

  -- a message of a known form
  pub form-message : (P : List Device → Type 0) (f : form.Form) → admitted_form domain t x ≡ gives f → Given P (obey d x t.devices f) → Given (λ (u : Table). P u.devices) (message domain d t x)
  form-message P f e h = message-given P (λ g i. let q : f ≡ g = cc in subst (λ (k : form.Form). Given P (obey d x t.devices k)) q h)

  -- "Every message taken becomes the last time"
  pub last-given : Given (λ (u : Table). u.last ≡ Some x.time) (message domain d t x)
  unfolding message
  last-given = given_then Q (admitted_form domain t x) _ (λ f e. given_then Q (obey d x t.devices f) _ (λ ds g. refl))
    where
      Q : Table → Type 0
      Q u = u.last ≡ Some x.time

  pub due-given : Given (λ (u : Table). is_due t.last x.time ≡ true) (message domain d t x)
  unfolding message
  due-given = given_then Q (admitted_form domain t x) _ (λ f e. given_then Q (obey d x t.devices f) _ (λ ds g. (given (Passed domain t x) (form-given domain t x) e).due))
    where
      Q : Table → Type 0
      Q u = is_due t.last x.time ≡ true

-- ---- every table that messages make

module _ (domain : List ℕ) (d : ℕ) (P : Table → Type 0) (step : (t : Table) (x : Message) → P t → Given P (message domain d t x)) where
  next-holds : (t : Table) (a : Answer Table) → P t → Given P a → P (next (rules domain d) t (outcome a))
  unfolding outcome
  next-holds t (refused n) p h = p
  next-holds t (gives u) p h = h

  pub from-holds : (t : Table) (xs : List Message) → P t → P (from (rules domain d) t xs)
  unfolding from
  from-holds t [] p = p
  from-holds t (x ∷ xs) p = from-holds (next (rules domain d) t (outcome (message domain d t x))) xs (next-holds t (message domain d t x) p (step t x p))

-- ---- ascending IDs, at most d devices

module _ (d : ℕ) (x : Message) (ds : List Device) (o : Invariant d ds) where
  made_orderly : (id : List ℕ) (s : DeviceState) (a : Answer Device) → is_id id ≡ true → find id ds ≡ a → Given (Invariant d) (make_or_update d id s x.time ds a)
  unfolding make_or_update
  made_orderly id s (gives v) i e = change_orderly id (with_state s x.time) (λ u. refl) d ds o
  made_orderly id s (refused n) i e = given-require (Invariant d) _ 13 _ (λ h. insert_orderly (new_device id s x.time) d ds n e i (ltb-true (length ds) d h) o)

  worded_orderly : (id : List ℕ) (s : Option DeviceState) → is_id id ≡ true → Given (Invariant d) (by_word d id x.time ds s)
  unfolding by_word
  worded_orderly id None i = refl
  worded_orderly id (Some s) i = made_orderly id s (find id ds) i refl

  state_orderly : (id : List ℕ) → is_id id ≡ true → Given (Invariant d) (obey_state d id x ds)
  unfolding obey_state
  state_orderly id i = given_choice (Invariant d) (is_empty x.payload) _ _ (given_then (Invariant d) (find id ds) _ (λ v e. remove_orderly id d ds o)) (worded_orderly id (state_worded x.payload) i)

  description_orderly : (id : List ℕ) → Given (Invariant d) (obey_description id x ds)
  unfolding obey_description
  description_orderly id = given_then (Invariant d) (find id ds) _ (λ v e. given_then (Invariant d) (described_by id v.description x.payload) _ (λ y g. change_orderly id (with_description y) (λ u. refl) d ds o))

  lane_orderly : (k : LaneKind) (id node property : List ℕ) → Given (Invariant d) (obey_lane k id node property x ds)
  unfolding obey_lane fill in_device
  lane_orderly k id node property = given_then (Invariant d) (find id ds) _ (λ v e. given_then (Invariant d) (find_property node property (properties_of v.description)) _ (λ p g.
      lane-given (Invariant d) k p x _ (change_orderly id (in_device (change_property node property (with_lane k (held_by x)))) (λ u. refl) d ds o)))

  unchanged_orderly : (id : List ℕ) → Given (Invariant d) (and_then (find id ds) (λ (v : Device). gives ds))
  unchanged_orderly id = given_then (Invariant d) (find id ds) _ (λ v e. o)

  obey_orderly : (f : form.Form) → valid f ≡ true → Given (Invariant d) (obey d x ds f)
  unfolding obey valid
  obey_orderly (form.state id) i = state_orderly id i
  obey_orderly (form.description id) i = description_orderly id
  obey_orderly (form.value id n p) i = lane_orderly Value id n p
  obey_orderly (form.set id n p) i = lane_orderly Asked id n p
  obey_orderly (form.target id n p) i = lane_orderly Target id n p
  obey_orderly (form.alert id a) i = unchanged_orderly id
  obey_orderly (form.log id l) i = unchanged_orderly id
  obey_orderly (form.broadcast ids) i = o
  obey_orderly (form.other id w ls) i = unchanged_orderly id

pub from_orderly : (domain : List ℕ) (d : ℕ) (t : Table) (xs : List Message) → Invariant d t.devices → Invariant d (from (rules domain d) t xs).devices
from_orderly domain d t xs o = from-holds domain d (λ u. Invariant d u.devices) (λ u x p. message-given domain d u x (Invariant d) (λ f e. obey_orderly d x u.devices p f (form-valid domain u x f e))) t xs o

-- ---- the last time never falls

due-step : (u w time : ℕ) → u ≤ w → is_due (Some w) time ≡ true → u ≤ time
unfolding is_due
due-step u w time h e = omega (arith, h, leb-true w time e)

pub from-due : (domain : List ℕ) (d u : ℕ) (t : Table) (xs : List Message) → NotBefore u t → NotBefore u (from (rules domain d) t xs)
from-due domain d u t xs p = from-holds domain d (NotBefore u) (λ v x h. go v x h (message domain d v x) (last-given domain d v x) (due-given domain d v x)) t xs p
  where
    go : (v : Table) (x : Message) → NotBefore u v → (a : Answer Table) → Given (λ (y : Table). y.last ≡ Some x.time) a → Given (λ (y : Table). is_due v.last x.time ≡ true) a → Given (NotBefore u) a
    go v x h (refused n) p q = refl
    go v x h (gives y) p q = record { time = x.time; last = p; due = due-step u h.time x.time h.due (rw h.last at q) }

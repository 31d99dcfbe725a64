-- What the contracts of private functions cite. No promise rests on it.
use Rattle.std.specs.Prelude.{ℕ, ◌≤◌, ◌≡◌, List, Bool, true, ◌&&◌, ◌||◌, length, Result, Ok, Err, IfOk}
use Rattle.answer.specs.Answer.{Answer, refused, gives, require, and_then}
use Rattle.answer.specs.Refused.{refusal_of}
use Rattle.answer.specs.declared.Refused.{Refused}
use Rattle.text.specs.Utf8.{is_text}
use Rattle.topic.specs.Form.{Form}
use Rattle.topic.specs.Flags.{flag_of, admits}
use Rattle.text.specs.Places.{bytes_at}
use Rattle.topic.specs.Meaning.{form_at}
use Rattle.topic.specs.Writing.{valid}
use Rattle.text.specs.declared.Place.{Place}
use Rattle.topic.specs.declared.Topic.{Topic}
use Rattle.text.specs.Ids.{id_most}
use Rattle.device.specs.Layout.{payload_most}
use Rattle.rules.specs.declared.LaneKind.{LaneKind}
use Rattle.rules.specs.Table.{Device, Property}
use Rattle.rules.specs.Find.{find}
use Rattle.rules.specs.Messages.{Message, same_flag, lane_rules, obey_state, obey_description, obey_lane, obey}
use Rattle.lookup.specs.Meaning.{opening_of, devices_in}
use Rattle.verdict.specs.declared.Verdict.{Verdict}
use Rattle.verdict.specs.Verdict.{sent, Judged}

-- an answer unless a test refuses it
unfoldable pub unless : {A : Type 0} → Result Unit Refused → Answer A → Answer A
unless (Ok u) a = a
unless (Err r) a = refused (refusal_of r)

-- the rules of the lanes by their tests: whether the property keeps its value, may be set, whether the payload is empty, is valid
abbrev pub value_tests : (keeps retained empty valid : Bool) → Answer (List Device) → Answer (List Device)
value_tests keeps retained empty valid a = require (same_flag keeps retained) 11 (require ((empty && keeps) || valid) 14 a)

abbrev pub set_tests : (settable valid : Bool) → Answer (List Device) → Answer (List Device)
set_tests settable valid a = require settable 17 (require valid 14 a)

abbrev pub target_tests : (empty valid : Bool) → Answer (List Device) → Answer (List Device)
target_tests empty valid a = require (empty || valid) 14 a

-- the refusal is that of the tests, and what passes is empty or valid
pub record Passes (tests : Answer (List Device) → Answer (List Device)) (empty valid : Bool) (r : Result Unit Refused) : Type 0 where
  pub says : (a : Answer (List Device)) → tests a ≡ unless r a
  pub passed : IfOk r (λ _. (empty || valid) ≡ true)

pub record Allows (kind : LaneKind) (p : Property) (x : Message) (r : Result Unit Refused) : Type 0 where
  pub says : (a : Answer (List Device)) → lane_rules kind p x a ≡ unless r a
  pub short : IfOk r (λ _. length x.payload ≤ payload_most)

-- 8 to 11: the refusal of a message with this form, this payload and this flag
unfoldable pub formed : (retained : Bool) → (payload : List ℕ) → Answer Form → Answer Form
formed retained payload a = and_then a (λ f. require (is_text payload) 10 (require (admits (flag_of f) retained) 11 (gives f)))

-- the IDs of a topic that was read are IDs
abbrev pub Named : List ℕ → Topic → Type 0
Named topic t = valid (form_at topic t) ≡ true

-- the verdict on a message of a form, for any time (and any flag, where the form fixes it)
abbrev pub On : (m : List ℕ) → Message → (ℕ → List Device → Answer (List Device)) → Result Verdict Refused → Type 0
On m x obeys v = Judged (opening_of m).devices x (devices_in m) (obeys (opening_of m).devices (devices_in m)) v

abbrev pub OnState : (m topic : List ℕ) → Place → (payload : List ℕ) → Result Verdict Refused → Type 0
OnState m topic device payload v =
    (time : ℕ) (retained : Bool) → length (bytes_at topic device) ≤ id_most →
    let x = sent time topic retained payload in On m x (λ d ds. obey_state d (bytes_at topic device) x ds) v

abbrev pub OnDescription : (m topic : List ℕ) → Place → (payload : List ℕ) → Result Verdict Refused → Type 0
OnDescription m topic device payload v =
    (time : ℕ) (retained : Bool) →
    let x = sent time topic retained payload in On m x (λ d ds. obey_description (bytes_at topic device) x ds) v

abbrev pub OnLane : (m : List ℕ) → LaneKind → (topic : List ℕ) → (device node property : Place) → (retained : Bool) → (payload : List ℕ) → Result Verdict Refused → Type 0
OnLane m kind topic device node property retained payload v =
    (time : ℕ) →
    let x = sent time topic retained payload in On m x (λ d ds. obey_lane kind (bytes_at topic device) (bytes_at topic node) (bytes_at topic property) x ds) v

-- a device that must be there, and nothing else
abbrev pub OnKnown : (m topic : List ℕ) → Place → Result Verdict Refused → Type 0
OnKnown m topic device v = (x : Message) → On m x (λ d ds. and_then (find (bytes_at topic device) ds) (λ w. gives ds)) v

abbrev pub OnForm : (m topic : List ℕ) → Topic → (retained : Bool) → (payload : List ℕ) → Result Verdict Refused → Type 0
OnForm m topic t retained payload v =
    (time : ℕ) → Named topic t →
    let x = sent time topic retained payload in On m x (λ d ds. obey d x ds (form_at topic t)) v

-- What this crate promises beyond its contracts.
use Rattle.faults.specs.declared.Fault.{Fault}
use Rattle.std.specs.Prelude.{None, Option, Some, Err, Ok, Result}
use Prim.Native.Nat.{ℕ, zero, suc, ◌^◌, ◌<◌, ◌≤◌}
use Rattle.answer.specs.declared.Refused.{Refused}
use native.Mathlib.Omega.{arith}
use mathlib.Core.Path.{◌≡◌}
use mathlib.Core.List.{List, [], ◌∷◌}
use lib.ListN.{take, length}
use mir.Syntax.{w64}
use mir.Val.{to_z}
use Rattle.numbers.specs.Whole.{stands}
use Rattle.answer.specs.Answer.{Answer, refused, gives}
use Rattle.answer.specs.declared.Refused.{Refused}
use Rattle.trace.specs.declared.EventAt.{EventAt}
use Rattle.cursor.specs.declared.Step.{Step}
use Rattle.topic.specs.declared.Topic.{Topic}
use Rattle.topic.specs.declared.Topic.TheVariants.{State, Description, Value, Set, Target, Alert, Log, Broadcast, Other}
use Rattle.topic.specs.Form.{Form}
use Rattle.payload.specs.declared.Datatype.{Datatype}
use Rattle.payload.specs.declared.Format.{Format}
use Rattle.payload.specs.declared.Format.TheVariants.{AsGiven, Colon, FalseTrue, NotKept}
use Rattle.properties.specs.declared.Entry.{Entry}
use Rattle.description.specs.declared.Description as declared
use Rattle.reply.specs.Reply.{Reply, twos_complement, FitsArray}
use Rattle.reply.specs.Files.{show_count, show_checked, event_values, show_reading, step_reply, show_step, show_written}
use Rattle.reply.specs.Judgements.{show_topic, show_flag, show_named, show_format, show_form}
use Rattle.reply.specs.Descriptions.{entry_values, entry_at, unless_told, show_description, show_declared}
use Rattle.reply.specs.Strings.{show_string}
use Rattle.answer.specs.declared.Refused.{Refused}
use Rattle.text.specs.declared.Place.{Place}
use Rattle.device.specs.declared.Declared.{Declared}
use Rattle.device.specs.declared.Lane.{Lane}
use Rattle.questions.specs.declared.States.{States}
use Rattle.reply.specs.Answers.{shows, if_any, show_offer, show_number, show_id, show_states, show_relative, show_version, show_property, show_held, show_time}
use Rattle.reply.proofs.Signed.{read-signed}

-- the bits that are shown of a version, read as a signed number of 64 bits, are the version
pub signed_back : (v : ℕ) → v < 2 ^ 64 → to_z w64 (twos_complement (stands (2 ^ 63) v)) ≡ stands (2 ^ 63) v
signed_back = read-signed

-- ---- `HOMIE5_VALUES` of include/homie5.h, 9, is enough for every answer

-- ---- trace files

pub checked-fits : (a : Result ℕ Refused) → FitsArray (show_checked a)
unfolding show_count
checked-fits (Ok n) = omega arith
checked-fits (Err r) = omega arith

pub reading-fits : (a : Result EventAt Refused) → FitsArray (show_reading a)
unfolding show_reading event_values
reading-fits (Ok e) = omega arith
reading-fits (Err r) = omega arith

step : (a : Result EventAt Refused) (at : ℕ) → FitsArray (step_reply a at)
unfolding step_reply event_values
step (Ok e) at = omega arith
step (Err r) at = omega arith

pub step_fits : (a : Step) → FitsArray (show_step a)
step_fits a = step a.reading a.at

pub written-fits : (a : Result ℕ Refused) → FitsArray (show_written a)
written-fits = checked-fits

-- ---- topics, datatypes, formats

form_fits : (a : Topic) → FitsArray (show_form a)
unfolding show_form
form_fits (State d) = omega arith
form_fits (Description d) = omega arith
form_fits (Value d n p) = omega arith
form_fits (Set d n p) = omega arith
form_fits (Target d n p) = omega arith
form_fits (Alert d a) = omega arith
form_fits (Log d l) = omega arith
form_fits (Broadcast ids) = omega arith
form_fits (Other d w ls) = omega arith

pub topic-fits : (a : Result Topic Refused) → FitsArray (show_topic a)
unfolding show_topic
topic-fits (Ok t) = form_fits t
topic-fits (Err r) = omega arith

pub flag-fits : (a : Answer Form) → FitsArray (show_flag a)
unfolding show_flag
flag-fits (refused k) = omega arith
flag-fits (gives f) = omega arith

pub named-fits : (a : Option Datatype) → FitsArray (show_named a)
unfolding show_named
named-fits None = omega arith
named-fits (Some d) = omega arith

pub format-fits : (a : Option Format) → FitsArray (show_format a)
unfolding show_format
format-fits None = omega arith
format-fits (Some AsGiven) = omega arith
format-fits (Some Colon) = omega arith
format-fits (Some FalseTrue) = omega arith
format-fits (Some NotKept) = omega arith

-- ---- descriptions

either : (t : Option Fault) (x : Reply) → FitsArray x → FitsArray (unless_told t x)
unfolding unless_told
either None x h = h
either (Some f) x h = omega arith

entry-fits : (s : List ℕ) (es : List Entry) (i : ℕ) → FitsArray (entry_at s es i)
unfolding entry_at entry_values
entry-fits s [] i = omega arith
entry-fits s (e ∷ es) zero = omega arith
entry-fits s (e ∷ es) (suc i) = entry-fits s es i

pub description-fits : (a : declared.Description) → FitsArray (show_description a)
unfolding show_description
description-fits a = either a.told _ (omega arith)

pub declared-fits : (s : List ℕ) (a : declared.Description) (i : ℕ) → FitsArray (show_declared s a i)
unfolding show_declared
declared-fits s a i = either a.told _ (entry-fits s (take a.properties.n a.properties.items) i)

pub string-fits : (a : Answer (List ℕ)) → FitsArray (show_string a)
unfolding show_string
string-fits (refused k) = omega arith
string-fits (gives t) = omega arith

-- ---- the table

shows_fit : {A : Type 0} (f : A → List ℕ) → ((x : A) → length (f x) ≤ 9) → (a : Result A Refused) → FitsArray (shows f a)
shows_fit f h (Ok x) = h x
shows_fit f h (Err r) = omega arith

if-any-fits : {A : Type 0} (f : A → List ℕ) → ((x : A) → length (f x) ≤ 8) → (o : Option A) → length (if_any f o) ≤ 9
if-any-fits f h None = omega arith
if-any-fits f h (Some x) = omega (arith, h x)

pub offer-fits : (a : Result ℕ Refused) → FitsArray (show_offer a)
unfolding show_offer
offer-fits = shows_fit _ (λ x. omega arith)

pub number_fits : (a : Result ℕ Refused) → FitsArray (show_number a)
unfolding show_number
number_fits = shows_fit _ (λ x. omega arith)

pub id-fits : (a : Result Place Refused) → FitsArray (show_id a)
unfolding show_id
id-fits = shows_fit _ (λ x. omega arith)

pub states_fit : (a : Result States Refused) → FitsArray (show_states a)
unfolding show_states
states_fit = shows_fit _ (λ x. omega arith)

pub relative-fits : (a : Result (Option Place) Refused) → FitsArray (show_relative a)
unfolding show_relative
relative-fits = shows_fit _ (if-any-fits _ (λ x. omega arith))

pub version-fits : (a : Result (Option ℕ) Refused) → FitsArray (show_version a)
unfolding show_version
version-fits = shows_fit _ (if-any-fits _ (λ x. omega arith))

pub property-fits : (a : Result Declared Refused) → FitsArray (show_property a)
unfolding show_property
property-fits = shows_fit _ (λ x. omega arith)

pub held_fits : (a : Result (Option Lane) Refused) → FitsArray (show_held a)
unfolding show_held
held_fits = shows_fit _ (if-any-fits _ (λ x. omega arith))

pub time-fits : (a : Result (Option ℕ) Refused) → FitsArray (show_time a)
unfolding show_time
time-fits = shows_fit _ (if-any-fits _ (λ x. omega arith))

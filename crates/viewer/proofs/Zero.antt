-- 0 is returned where an answer is none of the paper's refusals.
use Rattle.std.specs.Prelude.{Err, Ok, Result, None, Option, Some}
use Rattle.faults.specs.Faults.{fault_number}
use Rattle.faults.specs.declared.Fault.{Fault}
use Rattle.answer.specs.declared.Refused.{Refused}
use Prim.Native.Nat.{ℕ, zero, suc}
use mathlib.Core.Path.{◌≡◌, refl, sym, ap, ◌∙◌, subst}
use mathlib.Core.List.{List, [], ◌∷◌}
use mathlib.Core.Logic.{◌↔◌}
use native.Mathlib.Omega.{arith}
use lib.ListN.{length, take}
use lib.Dec.{leb}
use borrow.Author.Tests.{leb-true}
use Rattle.answer.specs.Answer.{Refusal, Answer, refused, gives, and_then, placed}
use Rattle.answer.specs.declared.Refused.{Refused}
use Rattle.trace.specs.declared.EventAt.{EventAt}
use Rattle.text.specs.Split.{split}
use Rattle.text.proofs.Bytes.{both}
use Rattle.json_text.specs.Bytes.{ws}
use Rattle.json_text.specs.Strings.{string_at}
use Rattle.escapes.specs.Decode.{Decoded, whole, half}
use Rattle.fields.specs.Values.{decoded_at}
use Rattle.trace.specs.Layout.{Event, decode}
use Rattle.trace.specs.Calls.{length_of, meaning_checked, checked, meaning_reading, read_at, meaning_written, emptied, added, appended, event}
use Rattle.topic.specs.Words.{slash}
use Rattle.topic.specs.Form.{Form}
use Rattle.topic.specs.declared.Topic.{Topic}
use Rattle.topic.specs.declared.Topic.TheVariants.{State, Description, Value, Set, Target, Alert, Log, Broadcast, Other}
use Rattle.topic.specs.Topics.{read_topic}
use Rattle.topic.specs.Meaning as topics
use Rattle.properties.specs.declared.Entry.{Entry}
use Rattle.properties.specs.Property as properties
use Rattle.properties.specs.Entries.{contents, view}
use Rattle.description.specs.declared.Description as declared
use Rattle.description.specs.Description.{Described, described_in, describe}
use Rattle.description.proofs.Theorems.{taken, not_taken, shows}
use Rattle.description.specs.Meaning as descriptions
use Rattle.rules.specs.Questions.{at}
use Rattle.rules.proofs.Refusals.{Passes, required, then, nth, read-levels, passed, not_zero, described-set}
use Rattle.lookup.specs.Contract.{is_openable}
use Rattle.table.specs.declared.Error.{Error}
use Rattle.table.specs.Outcome.{said}
use Rattle.questions.specs.Meaning.{says_number, says_id, says_states, says_relative, says_version, says_property, says_held, says_time}
use Rattle.reply.specs.Reply.{Reply, is_set, telling, refusal_number}
use Rattle.reply.specs.Files.{show_count, show_checked, show_reading, step_reply, show_written}
use Rattle.reply.specs.Judgements.{show_topic, show_flag, show_form}
use Rattle.reply.specs.Descriptions.{entry_at, unless_told, show_description, show_declared}
use Rattle.reply.specs.Strings.{said_at, string_from, string_in, show_string}
use Rattle.std.specs.Prelude.{Result, Ok, Err}
use Rattle.answer.specs.declared.Refused.{Refused}
use Rattle.answer.specs.Refused.{says}
use Rattle.rules.specs.Questions as value
use Rattle.reply.specs.Answers.{shows as shown_by, outcome_number, show_offer, show_number, show_id, show_states, show_relative, show_version, show_property, show_held, show_time}
use Rattle.viewer.specs.Calls as calls
use Rattle.viewer.proofs.Passing.{did-set, opened-passes}

-- a number returned of an answer: it is the answer's, and a refusal's number is not 0
record Right {B : Type 0} (n : ℕ) (x : Answer B) : Type 0 where
  same : n ≡ refusal_number x
  proper : Passes not_zero x

gives-zero : {B : Type 0} (x : Answer B) → ((r : Refusal) → x ≡ refused r → ⊥) → refusal_number x ≡ 0
unfolding refusal_number telling
gives-zero (refused r) h = absurd (h r refl)
gives-zero (gives v) h = refl

telling-zero : (n : ℕ) (l : List ℕ) → telling n l ≡ 0 → n ≡ 0
unfolding telling
telling-zero n [] e = e
telling-zero n (p ∷ ps) e = omega (arith, e)

right : {B : Type 0} {n : ℕ} {x : Answer B} → Right n x → (n ≡ 0) ↔ ((r : Refusal) → x ≡ refused r → ⊥)
unfolding refusal_number telling
right {B} {n} {x} y = (
  λ z r e. let k = telling-zero r.number r.tells (sym (ap refusal_number e) ∙ sym y.same ∙ z) in omega (arith, k, leb-true 1 r.number (passed not_zero y.proper e)),
  λ h. y.same ∙ gives-zero x h,
)

-- ---- no refusal of the paper has the number 0

as_paper : {B : Type 0} {x y : Answer B} → x ≡ y → Passes not_zero y → Passes not_zero x
as_paper {B} e p = subst (λ (a : Answer B). Passes not_zero a) (sym e) p

decoded : (f : List ℕ) → Passes not_zero (decode f)
unfolding decode
decoded f = required not_zero _ 1 _ refl (required not_zero _ 2 _ refl refl)

length-set : {A : Type 0} (a : Answer (List A)) → Passes not_zero a → Passes not_zero (length_of a)
unfolding length_of
length-set a p = then not_zero a _ p (λ l. refl)

checked-set : (f : List ℕ) → Passes not_zero (checked f)
unfolding checked
checked-set f = length-set (decode f) (decoded f)

read_set : (f : List ℕ) (i : ℕ) → Passes not_zero (read_at f i)
unfolding read_at
read_set f i = required not_zero _ 1 _ refl (required not_zero _ 3 _ refl (required not_zero _ 2 _ refl refl))

emptied-set : (m : List ℕ) → Passes not_zero (length_of (emptied m))
unfolding emptied
emptied-set m = length-set (emptied m) (required not_zero _ 4 _ refl refl)

appended-set : (m : List ℕ) (used : ℕ) (e : Event) → Passes not_zero (length_of (appended m used e))
unfolding appended added
appended-set m used e =
    length-set (appended m used e)
    (required not_zero _ 1 _ refl (then not_zero (decode (take used m)) _ (decoded (take used m)) (λ es. required not_zero _ 9 _ refl (required not_zero _ 7 _ refl (required not_zero _ 4 _ refl refl)))))

topic-set : (domain t : List ℕ) → Passes not_zero (read_topic domain t)
unfolding read_topic
topic-set domain t = read-levels not_zero domain (split slash t) refl refl

declared-set : (own s : List ℕ) (i : ℕ) → Passes not_zero (and_then (describe own s) (λ d. at i d.properties))
declared-set own s i = then not_zero (describe own s) _ (described-set own s) (λ d. nth not_zero i d.properties refl)

said-set : (k : ℕ) (d : Decoded) → Passes not_zero (said_at k d)
unfolding said_at
said-set k (whole t) = refl
said-set k (half p) = refl

from-set : (s : List ℕ) (k : ℕ) (r : Result ℕ ℕ) → Passes not_zero (string_from s k r)
unfolding string_from
from-set s k (Ok e) = said-set k (decoded_at s k)
from-set s k (Err e) = refl

string-set : (s : List ℕ) (k : ℕ) → Passes not_zero (string_in s k)
unfolding string_in
string-set s k = both (leb (length s) 8192) (λ e. rw (e, string_in) (from-set s k (string_at s k))) (λ e. rw (e, string_in) refl)

-- ---- what is shown of an answer has its number

checked-number : (a : Result ℕ Refused) → (show_checked a).number ≡ refusal_number (meaning_checked a)
unfolding show_count meaning_checked refusal_number telling
checked-number (Ok n) = refl
checked-number (Err k) = refl

reading-number : (f : List ℕ) (a : Result EventAt Refused) → (show_reading a).number ≡ refusal_number (meaning_reading f a)
unfolding show_reading meaning_reading refusal_number telling
reading-number f (Ok e) = refl
reading-number f (Err k) = refl

step-number : (f : List ℕ) (a : Result EventAt Refused) (place : ℕ) → (step_reply a place).number ≡ refusal_number (meaning_reading f a)
unfolding step_reply meaning_reading refusal_number telling
step-number f (Ok e) place = refl
step-number f (Err k) place = refl

written-number : (a : Result ℕ Refused) → (show_written a).number ≡ refusal_number (meaning_written a)
unfolding show_count meaning_written refusal_number telling
written-number (Ok n) = refl
written-number (Err k) = refl

form-number : (t : Topic) → (show_form t).number ≡ 0
unfolding show_form
form-number (State d) = refl
form-number (Description d) = refl
form-number (Value d n p) = refl
form-number (Set d n p) = refl
form-number (Target d n p) = refl
form-number (Alert d a) = refl
form-number (Log d l) = refl
form-number (Broadcast ids) = refl
form-number (Other d w ls) = refl

topic-number : (t : List ℕ) (a : Result Topic Refused) → (show_topic a).number ≡ refusal_number (topics.meaning t a)
unfolding show_topic refusal_number telling
topic-number t (Ok f) = form-number f
topic-number t (Err r) = refl

flag-number : (a : Answer Form) → (show_flag a).number ≡ refusal_number a
unfolding show_flag refusal_number telling
flag-number (refused k) = refl
flag-number (gives f) = refl

string-number : (a : Answer (List ℕ)) → (show_string a).number ≡ refusal_number a
unfolding show_string refusal_number telling
string-number (refused k) = refl
string-number (gives t) = refl

outcome-number : (a : Result Unit Error) → outcome_number a ≡ refusal_number (said a)
unfolding outcome_number refusal_number telling
outcome-number (Ok u) = refl
outcome-number (Err e) = refl

-- an answer of the table, whatever it says and shows
answer-number : {A : Type 0} (show : A → List ℕ) (say : A → value.Value) (a : Result A Refused) → (shown_by show a).number ≡ refusal_number (says say a)
unfolding refusal_number telling
answer-number show say (Ok x) = refl
answer-number show say (Err r) = refl

-- ---- descriptions: a taken one has its list of properties

module _ (own s : List ℕ) (d : declared.Description) (e : descriptions.meaning s d ≡ describe own s) where
  -- by what is told
  by-told : {X : Type 0} (t : Option Fault) → d.told ≡ t → (d.told ≡ None → X) → ((x : Fault) → d.told ≡ Some x → X) → X
  by-told None g f h = f g
  by-told (Some x) g f h = h x g

  described-taken : d.told ≡ None → descriptions.meaning s d ≡ gives (described_in s (ws s 0))
  described-taken t = e ∙ taken own s d e t

  described-not : {x : Fault} → d.told ≡ Some x → descriptions.meaning s d ≡ refused (placed (fault_number x.kind) x.place)
  described-not t = e ∙ not_taken own s d e t

  unless-told : {t : Option Fault} → d.told ≡ t → (x : Reply) → (unless_told d.told x).number ≡ (unless_told t x).number
  unless-told e x = ap (λ (t : Option Fault). (unless_told t x).number) e

  description-number : (show_description d).number ≡ refusal_number (descriptions.meaning s d)
  unfolding show_description unless_told refusal_number
  description-number = by-told d.told refl
      (λ t. unless-told t _ ∙ sym (ap refusal_number (described-taken t)))
      (λ x t. unless-told t _ ∙ sym (ap refusal_number (described-not t)))

  entry-number : (es : List Entry) (i : ℕ) → (entry_at s es i).number ≡ refusal_number (at i (contents s es))
  unfolding entry_at at contents refusal_number telling
  entry-number [] i = refl
  entry-number (x ∷ es) zero = refl
  entry-number (x ∷ es) (suc i) = entry-number es i

  abbrev nth_of : ℕ → Answer Described → Answer properties.Property
  nth_of i a = and_then a (λ x. at i x.properties)

  declared-number : (i : ℕ) → (show_declared s d i).number ≡ refusal_number (nth_of i (descriptions.meaning s d))
  unfolding show_declared unless_told and_then refusal_number contents view
  declared-number i = by-told d.told refl
      (λ t. unless-told t _ ∙ (entry-number (take d.properties.n d.properties.items) i
      ∙ ap (λ (ps : List properties.Property). refusal_number (at i ps)) (shows s d (described_in s (ws s 0)) (described-taken t)).properties
      ∙ sym (ap (λ (a : Answer Described). refusal_number (nth_of i a)) (described-taken t))))
      (λ x t. unless-told t _ ∙ sym (ap (λ (a : Answer Described). refusal_number (nth_of i a)) (described-not t)))

-- ---- every call

returned : {A B : Type 0} {Promised : A → Type 0} {n : A → ℕ} {says : A → Answer B} → calls.NumberedCall A B Promised n says → (a : A) → Promised a → Right (n a) (says a)
unfolding show_offer show_number show_id show_states show_relative show_version show_property show_held show_time says_number says_id says_states says_relative says_version says_property says_held says_time
returned (calls.trace_check f) a p = record { same = checked-number a; proper = as_paper p (checked-set f) }
returned (calls.trace-read f i) a p = record { same = reading-number f a; proper = as_paper p.answer (read_set f i) }
returned (calls.trace-next f place) a p = record { same = step-number f a.reading a.at; proper = as_paper p.reading.answer (read_set f place) }
returned (calls.trace_empty m m') a p = record { same = written-number a; proper = as_paper p.answer (emptied-set m) }
returned (calls.trace-append m used time t r s m') a p = record { same = written-number a; proper = as_paper p.answer (appended-set m used (event time t (is_set r) s)) }
returned (calls.topic-read domain t) a p = record { same = topic-number t a; proper = as_paper p.says (topic-set domain t) }
returned (calls.topic-flag domain t) a p = record { same = flag-number a; proper = as_paper p (topic-set domain t) }
returned (calls.description-judge own s) a p = record { same = refl; proper = as_paper p (described-set own s) }
returned (calls.description-read own s) a p = record { same = description-number own s a p; proper = as_paper p (described-set own s) }
returned (calls.description-property own s i) a p = record { same = declared-number own s a p i; proper = as_paper (ap (λ (x : Answer Described). and_then x (λ d. at i d.properties)) p) (declared-set own s i) }
returned (calls.description-string s k) a p = record { same = string-number a; proper = as_paper p (string-set s k) }
returned (calls.opening m domain d j m') a p = record { same = outcome-number a; proper = as_paper p.answered (opened-passes not_zero (is_openable domain d j (length m)) refl) }
returned (calls.message m time t r s m') a p = record { same = outcome-number a; proper = did-set p }
returned (calls.step_back m m') a p = record { same = outcome-number a; proper = did-set p }
returned (calls.device-count m) a p = record { same = answer-number _ _ a; proper = did-set p }
returned (calls.device_at m i) a p = record { same = answer-number _ _ a; proper = did-set p.did }
returned (calls.states m i) a p = record { same = answer-number _ _ a; proper = did-set p }
returned (calls.root m i) a p = record { same = answer-number _ _ a; proper = did-set p.did }
returned (calls.parent m i) a p = record { same = answer-number _ _ a; proper = did-set p.did }
returned (calls.version m i) a p = record { same = answer-number _ _ a; proper = did-set p }
returned (calls.values_held m i) a p = record { same = answer-number _ _ a; proper = did-set p }
returned (calls.property m i k) a p = record { same = answer-number _ _ a; proper = did-set p.did }
returned (calls.lane m i n q k) a p = record { same = answer-number _ _ a; proper = did-set p.did }
returned (calls.last-time m) a p = record { same = answer-number _ _ a; proper = did-set p }
returned (calls.steps m) a p = record { same = answer-number _ _ a; proper = did-set p }

pub zero-answers : {A B : Type 0} {Promised : A → Type 0} {n : A → ℕ} {says : A → Answer B} → calls.NumberedCall A B Promised n says → (a : A) → Promised a → (n a ≡ 0) ↔ ((r : Refusal) → says a ≡ refused r → ⊥)
zero-answers c a p = right (returned c a p)

-- Which numbers a message and a question are refused with.
use Rattle.faults.specs.Faults.{fault_number}
use Rattle.faults.specs.declared.Fault.{Fault}
use Rattle.std.specs.Prelude.{Option, None, Some}
use Prim.Native.Nat.{ℕ, zero, suc}
use native.Mathlib.Omega.{arith}
use mathlib.Core.Path.{◌≡◌, refl, sym, subst}
use mathlib.Core.List.{List, [], ◌∷◌}
use mathlib.Core.Bool.{Bool, true, false, not, ◌&&◌, false≢true}
use lib.Dec.{leb, eqb}
use lib.ListN.{get_or}
use borrow.Author.Tests.{leb-true, le-leb, ne_eqb}
use Rattle.answer.specs.Answer.{Refusal, Answer, refused, gives, require, and_then, only, placed}
use Rattle.text.specs.Bytes.{eq_bytes}
use Rattle.text.proofs.Bytes.{and_both}
use Rattle.text.specs.Split.{split}
use Rattle.topic.specs.Words.{slash}
use Rattle.topic.specs.Form as form
use Rattle.topic.specs.Topics as topics
use Rattle.topic.specs.Topics.{when◌give◌else◌}
use Rattle.description.specs.Description.{Described, told, describe}
use Rattle.description.proofs.Theorems.{told-nothing, told_at, told-short, told-number}
use Rattle.book.specs.Book.{refuses, CallOf, Book, answers, State, answer}
use Rattle.book.specs.Promises.{Everywhere}
use Rattle.book.proofs.Theorems.{everywhere, every-state}
use Rattle.rules.specs.declared.DeviceState.{DeviceState}
use Rattle.rules.specs.declared.LaneKind.{LaneKind}
use Rattle.rules.specs.declared.LaneKind.TheVariants as lane
use Rattle.rules.specs.States.{state_worded}
use Rattle.rules.specs.Table.{Property, Device, Table, properties_of}
use Rattle.rules.specs.Find.{find, is_named, find_property}
use Rattle.rules.specs.Messages as rule
use Rattle.rules.specs.Questions.{Question, ask_count, ask_nth, ask_states, ask_root, ask_parent, ask_version, ask_filled, ask_property, ask_lane, ask_last, Value, taken, at, reply}
use Rattle.rules.specs.Rules.{rules, outcome}
use Rattle.rules.specs.Promises.{tells_message, of_message, tells_question, of_question}

-- a refusal passes a test
abbrev pub Passes : {A : Type 0} → (Refusal → Bool) → Answer A → Type 0
Passes test (refused r) = test r ≡ true
Passes test (gives x) = true ≡ true

module _ (test : Refusal → Bool) where
  pub required : {A : Type 0} (t : Bool) (n : ℕ) (a : Answer A) → test (only n) ≡ true → Passes test a → Passes test (require t n a)
  unfolding require
  required true n a p q = q
  required false n a p q = p

  pub then : {A B : Type 0} (a : Answer A) (f : A → Answer B) → Passes test a → ((x : A) → Passes test (f x)) → Passes test (and_then a f)
  unfolding and_then
  then (refused n) f p q = p
  then (gives x) f p q = q x

  chosen : {A : Type 0} (t : Bool) (a b : Answer A) → Passes test a → Passes test b → Passes {A = A} test (elim t as (λ x. Answer A) [ true ↦ a | false ↦ b ])
  chosen true a b p q = p
  chosen false a b p q = q

  found : (id : List ℕ) (ds : List Device) → test (only 12) ≡ true → Passes test (find id ds)
  unfolding find
  found id [] p = p
  found id (v ∷ vs) p = chosen (eq_bytes v.id id) (gives v) (find id vs) refl (found id vs p)

  found-property : (node id : List ℕ) (ps : List Property) → test (only 16) ≡ true → Passes test (find_property node id ps)
  unfolding find_property
  found-property node id [] p = p
  found-property node id (q ∷ ps) p = chosen (is_named node id q) (gives q) (find_property node id ps) refl (found-property node id ps p)

  pub nth : {A : Type 0} (i : ℕ) (l : List A) → test (only 3) ≡ true → Passes test (at i l)
  unfolding at
  nth i [] p = p
  nth zero (x ∷ l) p = refl
  nth (suc i) (x ∷ l) p = nth i l p

  -- of the device with that ID something is told
  of_device : {B : Type 0} (id : List ℕ) (ds : List Device) (f : Device → Answer B) → test (only 12) ≡ true → ((v : Device) → Passes test (f v)) → Passes test (and_then (find id ds) f)
  of_device id ds f p q = then (find id ds) f (found id ds p) q

  -- ---- topics: 8, 9

  row : {A : Type 0} (t : Bool) (a : A) (b : Answer A) → Passes test b → Passes test (when t give a else b)
  unfolding when◌give◌else◌
  row true a b p = refl
  row false a b p = p

  formed : (ls : List (List ℕ)) → test (only 9) ≡ true → Passes test (topics.form_of ls)
  unfolding topics.form_of
  formed ls p = row _ _ _ (row _ _ _ (row _ _ _ (row _ _ _ (row _ _ _ (row _ _ _ (row _ _ _ (row _ _ _ (row _ _ _ p))))))))

  pub read-levels : (domain : List ℕ) (ls : List (List ℕ)) → test (only 8) ≡ true → test (only 9) ≡ true → Passes test (topics.read_levels domain ls)
  unfolding topics.read_levels
  read-levels domain [] p q = p
  read-levels domain (l ∷ []) p q = p
  read-levels domain (l ∷ (m ∷ ls)) p q = required _ 8 _ p (formed ls q)

-- ---- a message: 7 to 17, or what is told of a description

described : (own s : List ℕ) → Passes of_message (describe own s)
described own s = go (told own s) refl
  where
    go : (t : Option Fault) → told own s ≡ t → Passes of_message (describe own s)
    go None e = subst (λ (a : Answer Described). Passes of_message a) (sym (told-nothing own s e)) refl
    go (Some x) e =
        let k = told-number own s e in
        let h : of_message (placed (fault_number x.kind) x.place) ≡ true = rw (le-leb 21 (fault_number x.kind) k.0, le-leb (fault_number x.kind) 25 k.1, le-leb x.place 8192 (told-short own s e)) in
        subst (λ (a : Answer Described). Passes of_message a) (sym (told_at own s e)) h

made : (d : ℕ) (id : List ℕ) (s : DeviceState) (time : ℕ) (ds : List Device) (a : Answer Device) → Passes of_message (rule.make_or_update d id s time ds a)
unfolding rule.make_or_update
made d id s time ds (gives v) = refl
made d id s time ds (refused n) = required of_message _ 13 _ refl refl

worded : (d : ℕ) (id : List ℕ) (time : ℕ) (ds : List Device) (o : Option DeviceState) → Passes of_message (rule.by_word d id time ds o)
unfolding rule.by_word
worded d id time ds None = refl
worded d id time ds (Some s) = made d id s time ds (find id ds)

obeys-state : (d : ℕ) (id : List ℕ) (x : rule.Message) (ds : List Device) → Passes of_message (rule.obey_state d id x ds)
unfolding rule.obey_state
obeys-state d id x ds = chosen of_message (rule.is_empty x.payload) _ _ (of_device of_message id ds _ refl (λ v. refl)) (worded d id x.time ds (state_worded x.payload))

obeys-description : (id : List ℕ) (x : rule.Message) (ds : List Device) → Passes of_message (rule.obey_description id x ds)
unfolding rule.obey_description rule.described_by rule.redescribed
obeys-description id x ds = of_device of_message id ds _ refl (λ v. then of_message (rule.described_by id v.description x.payload) _
    (chosen of_message (rule.is_empty x.payload) _ _ refl (then of_message (describe id x.payload) _ (described id x.payload) (λ y. refl))) (λ y. refl))

lane-rules : (k : LaneKind) (p : Property) (x : rule.Message) (a : Answer (List Device)) → Passes of_message a → Passes of_message (rule.lane_rules k p x a)
unfolding rule.lane_rules rule.value_rules rule.set_rules rule.target_rules
lane-rules lane.Value p x a h = required of_message _ 11 _ refl (required of_message _ 14 _ refl h)
lane-rules lane.Asked p x a h = required of_message _ 17 _ refl (required of_message _ 14 _ refl h)
lane-rules lane.Target p x a h = required of_message _ 14 _ refl h

obeys-lane : (k : LaneKind) (id node property : List ℕ) (x : rule.Message) (ds : List Device) → Passes of_message (rule.obey_lane k id node property x ds)
unfolding rule.obey_lane
obeys-lane k id node property x ds = of_device of_message id ds _ refl (λ v. then of_message (find_property node property (properties_of v.description)) _ (found-property of_message node property (properties_of v.description) refl) (λ p. lane-rules k p x _ refl))

obeys : (d : ℕ) (x : rule.Message) (ds : List Device) (f : form.Form) → Passes of_message (rule.obey d x ds f)
unfolding rule.obey
obeys d x ds (form.state id) = obeys-state d id x ds
obeys d x ds (form.description id) = obeys-description id x ds
obeys d x ds (form.value id n p) = obeys-lane lane.Value id n p x ds
obeys d x ds (form.set id n p) = obeys-lane lane.Asked id n p x ds
obeys d x ds (form.target id n p) = obeys-lane lane.Target id n p x ds
obeys d x ds (form.alert id a) = of_device of_message id ds _ refl (λ v. refl)
obeys d x ds (form.log id l) = of_device of_message id ds _ refl (λ v. refl)
obeys d x ds (form.broadcast ids) = refl
obeys d x ds (form.other id w ls) = of_device of_message id ds _ refl (λ v. refl)

formed-message : (domain : List ℕ) (t : Table) (x : rule.Message) → Passes of_message (rule.admitted_form domain t x)
unfolding rule.admitted_form topics.read_topic
formed-message domain t x =
    required of_message _ 7 _ refl
    (then of_message (topics.read_topic domain x.topic) _ (read-levels of_message domain (split slash x.topic) refl refl) (λ f. required of_message _ 10 _ refl (required of_message _ 11 _ refl refl)))

pub message-passes : (domain : List ℕ) (d : ℕ) (t : Table) (x : rule.Message) → Passes of_message (rule.message domain d t x)
unfolding rule.message
message-passes domain d t x = then of_message (rule.admitted_form domain t x) _ (formed-message domain t x) (λ f. then of_message (rule.obey d x t.devices f) _ (obeys d x t.devices f) (λ ds. refl))

-- ---- a question: 3, 12, 16

pub reply-passes : (t : Table) (q : Question) → Passes of_question (reply t q)
unfolding reply
reply-passes t ask_count = refl
reply-passes t (ask_nth i) = then of_question (at i t.devices) _ (nth of_question i t.devices refl) (λ v. refl)
reply-passes t (ask_states d) = of_device of_question d t.devices _ refl (λ v. refl)
reply-passes t (ask_root d) = of_device of_question d t.devices _ refl (λ v. refl)
reply-passes t (ask_parent d) = of_device of_question d t.devices _ refl (λ v. refl)
reply-passes t (ask_version d) = of_device of_question d t.devices _ refl (λ v. refl)
reply-passes t (ask_filled d) = of_device of_question d t.devices _ refl (λ v. refl)
reply-passes t (ask_property d i) = of_device of_question d t.devices _ refl (λ v. then of_question (at i (properties_of v.description)) _ (nth of_question i (properties_of v.description) refl) (λ p. refl))
reply-passes t (ask_lane d n p k) = of_device of_question d t.devices _ refl (λ v. then of_question (find_property n p (properties_of v.description)) _ (found-property of_question n p (properties_of v.description) refl) (λ q. refl))
reply-passes t ask_last = refl

-- ---- the book's answers

pub passed : {A : Type 0} {a : Answer A} {r : Refusal} (test : Refusal → Bool) → Passes test a → a ≡ refused r → test r ≡ true
passed {A} test p e = subst (λ (b : Answer A). Passes test b) e p

pub message-refused : (domain : List ℕ) (d : ℕ) (t : Table) (x : rule.Message) (r : Refusal) → rule.message domain d t x ≡ refused r → of_message r ≡ true
message-refused domain d t x r e = passed of_message (message-passes domain d t x) e

pub reply-refused : (t : Table) (q : Question) (r : Refusal) → reply t q ≡ refused r → of_question r ≡ true
reply-refused t q r e = passed of_question (reply-passes t q) e

-- a test that follows from another
pub weaker : {A : Type 0} (test test' : Refusal → Bool) → ((r : Refusal) → test r ≡ true → test' r ≡ true) → (a : Answer A) → Passes test a → Passes test' a
weaker test test' h (refused r) p = h r p
weaker test test' h (gives x) p = refl

-- a test that every refusal of a message, of a question and of a step back passes
module _ (test : Refusal → Bool) (m : (r : Refusal) → of_message r ≡ true → test r ≡ true) (q : (r : Refusal) → of_question r ≡ true → test r ≡ true) (s : test (only 18) ≡ true) (domain : List ℕ) (d : ℕ) where
  message-told : (b : Answer Table) (a : Answer Value) → Passes of_message b → outcome b ≡ refuses a → Passes test a
  unfolding outcome
  message-told (refused k) a p e = let g : ◌≡◌ {A = Answer Value} (refused k) a = cc in subst (λ (b : Answer Value). Passes test b) g (m k p)
  message-told (gives t) a p e = let z : ◌≡◌ {A = ℕ} 0 1 = cc in absurd (omega arith)

  all_pass : Everywhere (rules domain d) (λ (a : Answer Value). Passes test a)
  all_pass = record {
    taken = refl;
    none = s;
    offers = λ k. refl;
    refusals = λ t x a e. message-told (rule.message domain d t x) a (message-passes domain d t x) e;
    replies = λ t c. weaker of_question test q (reply t c) (reply-passes t c);
  }

  pub book-passes : (j : ℕ) (b : Book (rules domain d)) (calls : List (CallOf (rules domain d))) (i : ℕ) → Passes test (get_or (answers (rules domain d) j b calls) i (gives taken))
  book-passes = everywhere (rules domain d) (λ (a : Answer Value). Passes test a) all_pass

  pub state-passes : (t : State Table) (c : CallOf (rules domain d)) → Passes test (answer (rules domain d) t c)
  state-passes = every-state (rules domain d) (λ (a : Answer Value). Passes test a) all_pass

-- 6, "memory is not a sound table", is told of no state
abbrev tells_other : ℕ → List ℕ → Bool
tells_other n [] = not (eqb n 6)
tells_other n (p ∷ ps) = true

abbrev not_six : Refusal → Bool
not_six r = tells_other r.number r.tells

message_six : (n : ℕ) (l : List ℕ) → tells_message n l ≡ true → tells_other n l ≡ true
message_six n [] e = let k = leb-true 7 n (and_both (leb 7 n) (leb n 17) e).0 in rw (ne_eqb n 6 (λ z. omega (arith, k, z)))
message_six n (p ∷ ps) e = refl

question_six : (n : ℕ) (l : List ℕ) → tells_question n l ≡ true → tells_other n l ≡ true
question_six n [] e = rw (ne_eqb n 6 (λ z. false≢true (rw z at e)))
question_six n (p ∷ ps) e = refl

-- and 0, which is no refusal, nowhere
abbrev pub not_zero : Refusal → Bool
not_zero r = leb 1 r.number

message-set : (n : ℕ) (l : List ℕ) → tells_message n l ≡ true → leb 1 n ≡ true
message-set n [] e = let k = leb-true 7 n (and_both (leb 7 n) (leb n 17) e).0 in le-leb 1 n (omega (arith, k))
message-set n (p ∷ []) e = let k = leb-true 21 n (and_both (leb 21 n) (leb n 25) (and_both (leb 21 n && leb n 25) (leb p 8192) e).0).0 in le-leb 1 n (omega (arith, k))
message-set n (p ∷ (q ∷ ps)) e = absurd (false≢true e)

question-set : (n : ℕ) (l : List ℕ) → tells_question n l ≡ true → leb 1 n ≡ true
question-set zero [] e = absurd (false≢true e)
question-set (suc n) [] e = le-leb 1 (suc n) (omega arith)
question-set n (p ∷ ps) e = absurd (false≢true e)

pub described-set : (own s : List ℕ) → Passes not_zero (describe own s)
described-set own s = weaker of_message not_zero (λ r h. message-set r.number r.tells h) (describe own s) (described own s)

-- a place that is told is at most 8,192
abbrev tells_short : List ℕ → Bool
tells_short [] = true
tells_short (p ∷ ps) = leb p 8192

abbrev pub is_short : Refusal → Bool
is_short r = tells_short r.tells

message-short : (n : ℕ) (l : List ℕ) → tells_message n l ≡ true → tells_short l ≡ true
message-short n [] e = refl
message-short n (p ∷ []) e = (and_both (leb 21 n && leb n 25) (leb p 8192) e).1
message-short n (p ∷ (q ∷ ps)) e = absurd (false≢true e)

question-short : (n : ℕ) (l : List ℕ) → tells_question n l ≡ true → tells_short l ≡ true
question-short n [] e = refl
question-short n (p ∷ ps) e = absurd (false≢true e)

module _ (domain : List ℕ) (d : ℕ) where
  pub no_six : (j : ℕ) (b : Book (rules domain d)) (calls : List (CallOf (rules domain d))) (i : ℕ) → get_or (answers (rules domain d) j b calls) i (gives taken) ≡ refused (only 6) → ⊥
  no_six j b calls i e = false≢true (passed not_six (book-passes not_six (λ r h. message_six r.number r.tells h) (λ r h. question_six r.number r.tells h) refl domain d j b calls i) e)

  pub state_no_six : (s : State Table) (c : CallOf (rules domain d)) → answer (rules domain d) s c ≡ refused (only 6) → ⊥
  state_no_six s c e = false≢true (passed not_six (state-passes not_six (λ r h. message_six r.number r.tells h) (λ r h. question_six r.number r.tells h) refl domain d s c) e)

  pub state-set : (s : State Table) (c : CallOf (rules domain d)) → Passes not_zero (answer (rules domain d) s c)
  state-set = state-passes not_zero (λ r h. message-set r.number r.tells h) (λ r h. question-set r.number r.tells h) refl domain d

  pub state-short : (s : State Table) (c : CallOf (rules domain d)) → Passes is_short (answer (rules domain d) s c)
  state-short = state-passes is_short (λ r h. message-short r.number r.tells h) (λ r h. question-short r.number r.tells h) refl domain d

-- How a call keeps its promise: memory that is not sound, an answer that changes nothing, a change, a step back, an opening.
use Prim.Native.Nat.{ℕ}
use mathlib.Core.Path.{◌≡◌, refl, sym, ap, ◌∙◌}
use mathlib.Core.Bool.{Bool, true, false, cond, ◌&&◌}
use mathlib.Core.List.{List, [], ◌∷◌}
use lib.ListN.{length}
use Rattle.answer.specs.Answer.{Answer, refused, gives, only}
use Rattle.text.specs.Ids.{is_id}
use Rattle.memory.specs.State.{Change, state, change}
use Rattle.memory.proofs.Judge.{tf, ft}
use Rattle.journal.specs.Contract as journal
use Rattle.book.specs.Book.{Call, message, question, step_back, steps, State, told, moved, pop_says, popped, become}
use Rattle.rules.specs.Table.{Table}
use Rattle.rules.specs.Messages as messages
use Rattle.rules.specs.Messages.{Message}
use Rattle.rules.specs.Questions.{Question, Value, taken}
use Rattle.rules.specs.Rules.{outcome, rules}
use Rattle.lookup.specs.Meaning.{Sound, table_of, opening_of, means}
use Rattle.lookup.specs.Contract.{answer_of, is_taken, says_taken, Did, open_answer, Opened}
use Rattle.lookup.proofs.Steps as after

pub unsound : (c : Call Message Question) (m : List ℕ) → (Sound m → ⊥) → Did c m m (refused (only 6))
unsound c m n = record {
  unsound = λ _. refl;
  answered = λ s. absurd (n s);
  sound = λ s. s;
  opening = λ _. refl;
  moved = λ s. absurd (n s);
  same = λ _. refl;
  kept = refl;
  beyond = refl;
}

-- ---- what is not taken leaves the state as it is

message-stays : (d : List ℕ) (n j : ℕ) (s : State Table) (a : Answer Table) → is_taken (told (rules d n) (outcome a)) ≡ false → s ≡ moved (rules d n) j s (outcome a)
unfolding outcome is_taken says_taken
message-stays d n j s (refused k) e = refl
message-stays d n j s (gives t) e = tf e

back-stays : (d : List ℕ) (n : ℕ) (s : State Table) (ts : List Table) → is_taken (pop_says (rules d n) ts) ≡ false → s ≡ popped (rules d n) s ts
unfolding is_taken says_taken
back-stays d n s [] e = refl
back-stays d n s (t ∷ ts) e = tf e

stays : (c : Call Message Question) (m : List ℕ) → is_taken (answer_of m c) ≡ false → means m ≡ become (rules (opening_of m).domain (opening_of m).devices) (opening_of m).depth (means m) c
stays (message x) m e = message-stays (opening_of m).domain (opening_of m).devices (opening_of m).depth (means m) (messages.message (opening_of m).domain (opening_of m).devices (means m).now x) e
stays (question q) m e = refl
stays step_back m e = back-stays (opening_of m).domain (opening_of m).devices (means m) (means m).past e
stays steps m e = refl

pub left : (c : Call Message Question) (m : List ℕ) (a : Answer Value) → Sound m → a ≡ answer_of m c → is_taken a ≡ false → Did c m m a
left c m a s e f = record {
  unsound = λ n. absurd (n s);
  answered = λ _. e;
  sound = λ x. x;
  opening = λ _. refl;
  moved = λ _. stays c m (ap is_taken (sym e) ∙ f);
  same = λ _. refl;
  kept = refl;
  beyond = refl;
}

-- ---- a taken message is one change

module _ (m m' : List ℕ) (c : Change) (x : Message) (t : Table) (s : Sound m) (k : journal.Committed m c m' true)
    (judged : messages.message (opening_of m).domain (opening_of m).devices (means m).now x ≡ gives t) (made : table_of (change c (state m).now) ≡ t) where
  told_is : gives taken ≡ answer_of m (message x)
  unfolding outcome
  told_is = rw judged refl

  moved_is : means m' ≡ become (rules (opening_of m).domain (opening_of m).devices) (opening_of m).depth (means m) (message x)
  unfolding outcome
  moved_is =
      after.made-means m m' c (k.changed s.memory refl)
      ∙ rw (judged, made) refl

  pub took : Did (message x) m m' (gives taken)
  unfolding is_taken says_taken
  took = record {
    unsound = λ n. absurd (n s);
    answered = λ _. told_is;
    sound = λ _. after.made-sound m m' c (k.changed s.memory refl) s (k.sound s.memory);
    opening = λ _. after.made-opening m m' c (k.changed s.memory refl);
    moved = λ _. moved_is;
    same = λ e. tf e;
    kept = k.kept;
    beyond = k.beyond;
  }

-- ---- a step back

untaken : (r : Bool) → is_taken (cond r (gives taken) (refused (only 18))) ≡ false → r ≡ false
unfolding is_taken says_taken
untaken true e = e
untaken false e = refl

pub back : (m m' : List ℕ) (r : Bool) → Sound m → journal.Undone m m' r → Did step_back m m' (cond r (gives taken) (refused (only 18)))
back m m' r s u = record {
  unsound = λ n. absurd (n s);
  answered = λ _. ap (λ (b : Bool). cond b (gives taken) (refused (only 18))) (u.answered s.memory) ∙ sym (after.back-says m);
  sound = λ _. after.undone-sound m m' (u.changed s.memory) s (u.sound s.memory);
  opening = λ _. after.undone-opening m m' (u.changed s.memory);
  moved = λ _. after.undone-means m m' (u.changed s.memory) (opening_of m).domain (opening_of m).devices;
  same = λ e. u.refused (untaken r e);
  kept = u.kept;
  beyond = u.beyond;
}

-- ---- an opening

pub no-domain : (m domain : List ℕ) (d j : ℕ) → is_id domain ≡ false → Opened m domain d j m (refused (only 5))
unfolding is_taken open_answer
no-domain m domain d j e = record {
  answered = rw e refl;
  refused = λ _. refl;
  sound = λ f. ft f;
  opening = λ f. ft f;
  fresh = λ f. ft f;
  kept = refl;
  beyond = refl;
}

took_by : (r : Bool) → is_taken (open_answer r) ≡ r
unfolding is_taken says_taken open_answer
took_by true = refl
took_by false = refl

pub opened : (m domain : List ℕ) (d j : ℕ) (m' : List ℕ) (r : Bool) → is_id domain ≡ true → journal.Opened m domain d j m' r → Opened m domain d j m' (open_answer r)
opened m domain d j m' r i o = record {
  answered = ap open_answer (o.answered ∙ ap (λ (b : Bool). b && journal.opens (length domain) d j (length m)) (sym i));
  refused = λ e. o.refused (sym (took_by r) ∙ e);
  sound = λ e. after.opened-sound m' domain d j (state m').now.rooms (o.opened (sym (took_by r) ∙ e)) i (o.sound (sym (took_by r) ∙ e));
  opening = λ e. after.opened-opening m' domain d j (state m').now.rooms (o.opened (sym (took_by r) ∙ e));
  fresh = λ e. after.opened-means m' domain d j (state m').now.rooms (o.opened (sym (took_by r) ∙ e)) (opening_of m').domain (opening_of m').devices;
  kept = o.kept;
  beyond = o.beyond;
}

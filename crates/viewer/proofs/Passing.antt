-- What the refusals of a call of the table pass, and the room for a place that is told.
use Rattle.faults.specs.declared.Fault.{Fault}
use Rattle.faults.specs.Faults.{fault}
use Rattle.std.specs.Prelude.{None, Option, Some, Result, Ok, Err}
use Prim.Native.Nat.{ℕ}
use mathlib.Core.Path.{◌≡◌, refl, sym, ap, ◌∙◌, subst}
use mathlib.Core.List.{List}
use mathlib.Core.Bool.{Bool, true, false, false≢true}
use lib.ListN.{length}
use borrow.Author.Tests.{leb-true}
use Rattle.answer.specs.Answer.{Refusal, Answer, refused, gives, only, placed}
use Rattle.answer.proofs.Theorems.{same-refusal}
use Rattle.text.proofs.Bytes.{both}
use Rattle.description.specs.declared.Description.{Description}
use Rattle.description.specs.Description as description
use Rattle.description.specs.Meaning.{meaning}
use Rattle.description.proofs.Theorems.{told_is, told-short}
use Rattle.book.specs.Book.{Call, State, CallOf, answer}
use Rattle.rules.specs.Table.{Table}
use Rattle.rules.specs.Messages.{Message}
use Rattle.rules.specs.Questions.{Question, Value}
use Rattle.rules.specs.Rules.{rules}
use Rattle.rules.proofs.Refusals.{Passes, passed, not_zero, state-set, is_short, state-short}
use Rattle.lookup.specs.Meaning.{opening_of, means}
use Rattle.lookup.specs.Contract.{Did, Opened, is_openable, open_answer}
use Rattle.table.specs.declared.Error.{Error}
use Rattle.faults.specs.declared.Fault.{Fault}
use Rattle.faults.specs.Faults.{fault_number}
use Rattle.table.specs.Outcome.{said}
use Rattle.reply.specs.Reply.{Reply, Replied, Numbered, fit_place}
use Rattle.reply.specs.Reply as reply
use Rattle.reply.specs.Answers.{outcome_number, fit_outcome}
use Rattle.reply.specs.Descriptions.{fit_told, fit_description}
use Rattle.reply.proofs.Said.{short-fits}

-- a call of the table is refused as a state is, or with 6
module _ (test : Refusal → Bool) (six : test (only 6) ≡ true) (every : (domain : List ℕ) (d : ℕ) (s : State Table) (c : CallOf (rules domain d)) → Passes test (answer (rules domain d) s c)) where
  did-passes : {c : Call Message Question} {m m' : List ℕ} (a : Answer Value) → Did c m m' a → Passes test a
  did-passes (gives x) h = refl
  did-passes {c} {m} (refused r) h = both (test r) (λ t. t)
      (λ f. absurd (false≢true (sym f ∙ (ap test (same-refusal (h.unsound (λ s. false≢true (sym f ∙ passed test (every (opening_of m).domain (opening_of m).devices (means m) c) (sym (h.answered s)))))) ∙ six))))

pub did-set : {c : Call Message Question} {m m' : List ℕ} {a : Answer Value} → Did c m m' a → Passes not_zero a
did-set {c} {m} {m'} {a} h = did-passes not_zero refl state-set a h

pub opened-passes : (test : Refusal → Bool) (b : Bool) → test (only 5) ≡ true → Passes test (open_answer b)
unfolding open_answer
opened-passes test true p = refl
opened-passes test false p = p

-- ---- a place that is told has room, and so it is told as it is

faulty-fits : (f : Fault) → is_short (placed (fault_number f.kind) f.place) ≡ true → fit_outcome (Err (Error.Faulty f)) ≡ Err (Error.Faulty f)
unfolding fit_outcome
faulty-fits f e = ap (λ (p : ℕ). Err (Error.Faulty (record { place = p; kind = f.kind }))) (short-fits f.place (leb-true f.place 8192 e))

did-fits : {c : Call Message Question} {m m' : List ℕ} (a : Result Unit Error) → Did c m m' (said a) → fit_outcome a ≡ a
unfolding fit_outcome
did-fits (Ok u) h = refl
did-fits (Err (Error.Refused r)) h = refl
did-fits (Err (Error.Faulty f)) h = faulty-fits f (did-passes is_short refl state-short (refused (placed (fault_number f.kind) f.place)) h)

opening-fits : {m domain : List ℕ} {d j : ℕ} {m' : List ℕ} (a : Result Unit Error) → Opened m domain d j m' (said a) → fit_outcome a ≡ a
unfolding fit_outcome
opening-fits (Ok u) h = refl
opening-fits (Err (Error.Refused r)) h = refl
opening-fits {m} {domain} {d} {j} (Err (Error.Faulty f)) h = faulty-fits f (passed is_short (opened-passes is_short (is_openable domain d j (length m)) refl) (sym h.answered))

pub did-number : {c : Call Message Question} {m m' : List ℕ} (a : Result Unit Error) (r : ℕ) → Did c m m' (said a) → r ≡ outcome_number (fit_outcome a) → Numbered (λ x. Did c m m' (said x)) outcome_number r
did-number a r h e = record { answer = a; promise = h; says = e ∙ ap outcome_number (did-fits a h) }

pub opening-number : {m domain : List ℕ} {d j : ℕ} {m' : List ℕ} (a : Result Unit Error) (r : ℕ) → Opened m domain d j m' (said a) → r ≡ outcome_number (fit_outcome a) → Numbered (λ x. Opened m domain d j m' (said x)) outcome_number r
opening-number a r h e = record { answer = a; promise = h; says = e ∙ ap outcome_number (opening-fits a h) }

-- of a description

pub place-fits : (own s : List ℕ) (x : Fault) → Some x ≡ description.told own s → fit_place x.place ≡ x.place
place-fits own s x e = short-fits x.place (told-short own s (sym e))

told-fits : (own s : List ℕ) (t : Option Fault) → t ≡ description.told own s → fit_told t ≡ t
unfolding fit_told
told-fits own s None e = refl
told-fits own s (Some x) e = ap (λ (q : ℕ). Some (fault q x.kind)) (place-fits own s x e)

reads-fits : (own s : List ℕ) (d : Description) → meaning s d ≡ description.describe own s → fit_description d ≡ d
reads-fits own s d e = ap (λ (t : Option Fault). record { told = t; version = d.version; root = d.root; parent = d.parent; properties = d.properties }) (told-fits own s d.told (told_is own s d e))

pub reads-reply : (own s : List ℕ) (d : Description) (shown : Description → Reply) (out : List ℕ) (r : ℕ) (out' : List ℕ) → meaning s d ≡ description.describe own s → Replied (shown (fit_description d)) out r out' → reply.Told (λ x. meaning s x ≡ description.describe own s) shown out r out'
reads-reply own s d shown out r out' h x = record { answer = d; promise = h; reply = subst (λ (y : Description). Replied (shown y) out r out') (reads-fits own s d h) x }

-- The table: what is shown of each answer of crates `table` and `questions`. A place is one of the lent memory.
use Rattle.std.specs.Prelude.{ℕ, ◌^◌, List, [], ◌∷◌, Option, None, Some, Result, Ok, Err}
use Rattle.answer.specs.Refused.{number_of}
use Rattle.answer.specs.declared.Refused.{Refused}
use Rattle.text.specs.declared.Place.{Place}
use Rattle.device.specs.declared.Declared.{Declared}
use Rattle.device.specs.declared.Lane.{Lane}
use Rattle.questions.specs.declared.States.{States}
use Rattle.answer.specs.Answer.{placed}
use Rattle.numbers.specs.Whole.{stands}
use Rattle.payload.specs.Datatypes as datatypes
use Rattle.rules.specs.States.{code_of}
use Rattle.faults.specs.declared.Fault.{Fault}
use Rattle.table.specs.declared.Error.{Error}
use Rattle.table.specs.Outcome.{error_of}
use Rattle.reply.specs.Reply.{Reply, says, refuses, refusal_code, fit_place, bit, twos_complement}

-- Paper 01, "Known examples": "answer (0 taken)"
unfoldable pub outcome_number : Result Unit Error → ℕ
outcome_number (Ok u) = 0
-- the refusal's number; paper 02, K1, of a description's fault "with the byte place"
outcome_number (Err e) = refusal_code (error_of e)

-- the outcome with its place as there is room for it
unfoldable pub fit_outcome : Result Unit Error → Result Unit Error
fit_outcome (Ok u) = Ok u
fit_outcome (Err (Error.Refused r)) = Err (Error.Refused r)
fit_outcome (Err (Error.Faulty f)) = Err (Error.Faulty (record { place = fit_place f.place; kind = f.kind }))

-- the values of an answer, or the number of its refusal
abbrev pub shows : {A : Type 0} → (A → List ℕ) → Result A Refused → Reply
shows f (Ok a) = says (f a)
shows f (Err r) = refuses (number_of r)

-- whether there is one, then its values
abbrev pub if_any : {A : Type 0} → (A → List ℕ) → Option A → List ℕ
if_any f None = 0 ∷ []
if_any f (Some a) = 1 ∷ f a

-- Paper 01, "The table", Questions, from here on: "steps on offer"
unfoldable pub show_offer : Result ℕ Refused → Reply
show_offer = shows (λ n. n ∷ [])

-- "count of devices"; "how many of its properties hold a value"
unfoldable pub show_number : Result ℕ Refused → Reply
show_number = shows (λ n. n ∷ [])

-- "the i-th by ascending ID bytes": where its ID stands
unfoldable pub show_id : Result Place Refused → Reply
show_id = shows (λ p. p.start ∷ p.end ∷ [])

-- "its states and time": own state, effective state, time
unfoldable pub show_states : Result States Refused → Reply
show_states = shows (λ s. code_of s.own ∷ code_of s.effective ∷ s.time ∷ [])

-- "its root, parent (as sent) [..], or none": whether there is one, then where it stands
unfoldable pub show_relative : Result (Option Place) Refused → Reply
show_relative = shows (if_any (λ p. p.start ∷ p.end ∷ []))

-- "version (its number), or none": as an `int64_t`
unfoldable pub show_version : Result (Option ℕ) Refused → Reply
show_version = shows (if_any (λ v. twos_complement (stands (2 ^ 63) v) ∷ []))

-- "the i-th property by node ID, then property ID, with its datatype, kept format and two flags"
unfoldable pub show_property : Result Declared Refused → Reply
show_property = shows (λ p. p.node.start ∷ p.node.end ∷ p.id.start ∷ p.id.end ∷ datatypes.code_of p.datatype ∷ p.format.start ∷ p.format.end ∷ bit p.settable ∷ bit p.retained ∷ [])

-- "a lane"; "each is empty or holds a payload with its time"
unfoldable pub show_held : Result (Option Lane) Refused → Reply
show_held = shows (if_any (λ l. l.time ∷ l.payload.start ∷ l.payload.end ∷ []))

-- "last time (or none)"
unfoldable pub show_time : Result (Option ℕ) Refused → Reply
show_time = shows (if_any (λ t. t ∷ []))

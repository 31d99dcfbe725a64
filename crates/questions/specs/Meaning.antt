-- What the answers to questions say: the paper's number and values, byte strings by content. A place shown is one of the lent memory m.
use Rattle.std.specs.Prelude.{ℕ, List, length, Option, Result, Ok, Err}
use Rattle.answer.specs.Answer.{Answer}
use Rattle.text.specs.Places.{bytes_at, Within}
use Rattle.book.specs.Book.{question}
use Rattle.rules.specs.Questions.{Question, Value, a_number, an_id, two_states, a_text, a_version, a_property, a_lane, a_time}
use Rattle.lookup.specs.Contract.{Did}
use Rattle.answer.specs.Refused.{says}
use Rattle.answer.specs.declared.Refused.{Refused}
use Rattle.text.specs.declared.Place.{Place}
use Rattle.device.specs.declared.Declared.{Declared}
use Rattle.device.specs.declared.Lane.{Lane}
use Rattle.device.specs.Meaning.{text_in, Inside, version_is, declared_in, DeclaredInside, held_in, LaneInside}
use Rattle.questions.specs.declared.States.{States}

unfoldable pub says_number : Result ℕ Refused → Answer Value
says_number = says a_number

unfoldable pub says_id : List ℕ → Result Place Refused → Answer Value
says_id m = says (λ p. an_id (bytes_at m p))

unfoldable pub says_states : Result States Refused → Answer Value
says_states = says (λ s. two_states s.own s.effective s.time)

unfoldable pub says_relative : List ℕ → Result (Option Place) Refused → Answer Value
says_relative m = says (λ p. a_text (text_in m p))

-- the version's number is shown plus 2^63
unfoldable pub says_version : Result (Option ℕ) Refused → Answer Value
says_version = says (λ v. a_version (version_is v))

unfoldable pub says_property : List ℕ → Result Declared Refused → Answer Value
says_property m = says (λ d. a_property (declared_in m d))

unfoldable pub says_held : List ℕ → Result (Option Lane) Refused → Answer Value
says_held m = says (λ v. a_lane (held_in m v))

unfoldable pub says_time : Result (Option ℕ) Refused → Answer Value
says_time = says a_time

-- every place that an answer shows lies in the memory
abbrev pub IdInside : ℕ → Result Place Refused → Type 0
IdInside n (Err r) = Unit
IdInside n (Ok p) = Within n p

abbrev pub RelativeInside : ℕ → Result (Option Place) Refused → Type 0
RelativeInside n (Err r) = Unit
RelativeInside n (Ok p) = Inside n p

abbrev pub PropertyInside : ℕ → Result Declared Refused → Type 0
PropertyInside n (Err r) = Unit
PropertyInside n (Ok d) = DeclaredInside n d

abbrev pub HeldInside : ℕ → Result (Option Lane) Refused → Type 0
HeldInside n (Err r) = Unit
HeldInside n (Ok v) = LaneInside n v

-- "A question alters nothing": a call with its answer on memory that stays as it is, all places shown inside of it
pub record Asked (q : Question) (m : List ℕ) (a : Answer Value) (Inside : Type 0) : Type 0 where
  pub did : Did (question q) m m a
  pub places : Inside

abbrev pub AskedId : Question → List ℕ → Result Place Refused → Type 0
AskedId q m r = Asked q m (says_id m r) (IdInside (length m) r)

abbrev pub AskedRelative : Question → List ℕ → Result (Option Place) Refused → Type 0
AskedRelative q m r = Asked q m (says_relative m r) (RelativeInside (length m) r)

abbrev pub AskedProperty : Question → List ℕ → Result Declared Refused → Type 0
AskedProperty q m r = Asked q m (says_property m r) (PropertyInside (length m) r)

abbrev pub AskedHeld : Question → List ℕ → Result (Option Lane) Refused → Type 0
AskedHeld q m r = Asked q m (says_held m r) (HeldInside (length m) r)

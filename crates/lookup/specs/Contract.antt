-- What every call on a table promises: its answer, and the memory afterwards.
use Rattle.std.specs.Prelude.{ℕ, ◌≡◌, List, Bool, true, false, ◌&&◌, length, drop}
use Rattle.answer.specs.Answer.{Answer, refused, gives, only}
use Rattle.text.specs.Ids.{is_id}
use Rattle.memory.specs.Layout.{size, image_at}
use Rattle.journal.specs.Contract.{opens}
use Rattle.book.specs.Book.{Call, fresh, answer, become}
use Rattle.rules.specs.Messages.{Message}
use Rattle.rules.specs.Questions.{Question, Value, taken, a_number, an_id, two_states, a_text, a_version, a_property, a_lane, a_time}
use Rattle.rules.specs.Rules.{rules}
use Rattle.lookup.specs.Meaning.{Sound, opening_of, means}

abbrev pub answer_of : (m : List ℕ) → Call Message Question → Answer Value
answer_of m c = answer (rules (opening_of m).domain (opening_of m).devices) (means m) c

-- whether a call was taken: a message or a step back. A refusal, or the answer to a question, leaves memory as it was
unfoldable pub says_taken : Value → Bool
says_taken taken = true
says_taken (a_number n) = false
says_taken (an_id i) = false
says_taken (two_states own effective t) = false
says_taken (a_text s) = false
says_taken (a_version v) = false
says_taken (a_property p) = false
says_taken (a_lane h) = false
says_taken (a_time t) = false

unfoldable pub is_taken : Answer Value → Bool
is_taken (refused n) = false
is_taken (gives v) = says_taken v

-- Free in the memory after a call is taken: what `state` forgets (crate journal, specs/Contract), and what `means` forgets besides.
--   In a device's room: bytes behind the length of a byte string, 42 to 402, 479 to 511, records past the number of properties, 305 to 319 of each record, the
--   time of an empty lane, and without a description all from 404 on. In the head: the 14 bytes behind the last time, and the time where there is none.
--   The rooms of no device. And which of the values that mean the same a byte has: a flag that is not 0, a length above its limit, a number past the last.
-- Answers are functions of `opening_of` and `means`, so no choice of these changes an answer.

-- A call with its answer, and memory before and after. Unsound memory: 6. Sound memory: the answer is the book's over what memory means; the opening
-- stays, memory stays sound, and means what the call makes of it. What is not taken changes no byte; its length, and every byte past its size, stay.
pub record Did (c : Call Message Question) (m m' : List ℕ) (a : Answer Value) : Type 0 where
  pub unsound : (Sound m → ⊥) → a ≡ refused (only 6)
  pub answered : Sound m → a ≡ answer_of m c
  pub sound : Sound m → Sound m'
  pub opening : Sound m → opening_of m' ≡ opening_of m
  pub moved : Sound m → means m' ≡ become (rules (opening_of m).domain (opening_of m).devices) (opening_of m).depth (means m) c
  pub same : is_taken a ≡ false → m' ≡ m
  pub kept : length m' ≡ length m
  pub beyond : drop (size m) m' ≡ drop (size m) m

-- Paper 01, "The table": "Opened with a domain, devices D (1 to 64), depth J (0 to 64) and at least 8,192·(D+J+1) bytes". "The table is opened for one
-- domain, an ID." 5: "opening: D, J, domain or memory size wrong"
abbrev pub is_openable : (domain : List ℕ) → (d j size : ℕ) → Bool
is_openable domain d j size = is_id domain && opens (length domain) d j size

unfoldable pub open_answer : Bool → Answer Value
open_answer true = gives taken
open_answer false = refused (only 5)

pub record Opened (m domain : List ℕ) (d j : ℕ) (m' : List ℕ) (a : Answer Value) : Type 0 where
  pub answered : a ≡ open_answer (is_openable domain d j (length m))
  pub refused : is_taken a ≡ false → m' ≡ m
  pub sound : is_taken a ≡ true → Sound m'
  pub opening : is_taken a ≡ true → opening_of m' ≡ record { domain = domain; devices = d; depth = j }
  pub fresh : is_taken a ≡ true → means m' ≡ fresh (rules (opening_of m').domain (opening_of m').devices)
  pub kept : length m' ≡ length m
  pub beyond : drop (image_at d j) m' ≡ drop (image_at d j) m

-- What a message is answered that is sent to a new table, and sent again after a step back; and how many devices there are then.
use Rattle.std.specs.Prelude.{ℕ, ◌≡◌, List, true, false, length, drop}
use Rattle.answer.specs.Answer.{Answer, refused, only}
use Rattle.memory.specs.Layout.{image_at}
use Rattle.book.specs.Book.{message, told, next, fresh, become}
use Rattle.rules.specs.Table.{no_devices}
use Rattle.rules.specs.Messages as messages
use Rattle.rules.specs.Questions.{Value, ask_count, reply}
use Rattle.rules.specs.Rules.{rules, outcome}
use Rattle.lookup.specs.Meaning as meaning
use Rattle.lookup.specs.Contract.{is_openable}

pub record SentTwice (m domain : List ℕ) (x : messages.Message) (m' : List ℕ) (first again count : Answer Value) : Type 0 where
  pub unopened : is_openable domain 4 3 (length m) ≡ false → (first ≡ refused (only 5)) × (again ≡ refused (only 5)) × (count ≡ refused (only 5)) × (m' ≡ m)
  pub judged : is_openable domain 4 3 (length m) ≡ true → first ≡ told (rules domain 4) (outcome (messages.message domain 4 no_devices x))
  pub alike : is_openable domain 4 3 (length m) ≡ true → again ≡ first
  -- the number of devices that the message, sent once, makes of a new table
  pub counted : is_openable domain 4 3 (length m) ≡ true → count ≡ reply (next (rules domain 4) no_devices (outcome (messages.message domain 4 no_devices x))) ask_count
  -- memory means that table, with one step back on offer if the message was taken
  pub sound : is_openable domain 4 3 (length m) ≡ true → meaning.Sound m'
  pub means : is_openable domain 4 3 (length m) ≡ true → meaning.means m' ≡ become (rules domain 4) 3 (fresh (rules domain 4)) (message x)
  pub kept : length m' ≡ length m
  pub beyond : drop (image_at 4 3) m' ≡ drop (image_at 4 3) m

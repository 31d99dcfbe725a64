-- The rules of the paper, as the plain book takes them, for a table opened with a domain and at most d devices.
use Rattle.std.specs.Prelude.{ℕ, List}
use Rattle.answer.specs.Answer.{Answer, refused, gives, only}
use Rattle.book.specs.Book.{Outcome, refuses, takes, Rules}
use Rattle.rules.specs.Table.{Table, no_devices}
use Rattle.rules.specs.Messages.{Message, message}
use Rattle.rules.specs.Questions.{Question, Value, taken, a_number, reply}

unfoldable pub outcome : Answer Table → Outcome Table (Answer Value)
outcome (refused n) = refuses (refused n)
outcome (gives t) = takes t

abbrev pub rules : (domain : List ℕ) → (d : ℕ) → Rules
rules domain d = record {
  Message = Message;
  Question = Question;
  Table = Table;
  Answer = Answer Value;
  start = no_devices;
  judge = λ t x. outcome (message domain d t x);
  reply = λ t q. reply t q;
  taken = gives taken;
  none = refused (only 18);
  offer = λ n. gives (a_number n);
}

use Prim.Native.Nat.{ℕ}
use mathlib.Core.Path.{ap}
use Rattle.std.specs.Prelude.{Option}
use Rattle.answer.specs.Answer.{gives}
use Rattle.rules.specs.Questions.{ask_last, a_time, reply}
use Rattle.questions.specs.Meaning.{says_time}
use Rattle.questions.proofs.Answers.{unsound-asked, sound-asked}
use Rattle.questions.proofs.last_time.Goals as goal

pub returns-then-not-sound : goal.returns-then-not-sound
unfolding says_time
returns-then-not-sound c = unsound-asked ask_last c.args.mem.now (c.sound.ensures.1 c.if-not-sound.true)

pub returns : goal.returns
unfolding reply says_time
returns c =
    sound-asked ask_last c.args.mem.now _ (c.sound.ensures.0 c.if-not-sound.false) (ap (λ (t : Option ℕ). gives (a_time t)) c.last.ensures)

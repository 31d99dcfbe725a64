use Prim.Native.Nat.{ℕ}
use mathlib.Core.Path.{ap, ◌∙◌}
use Rattle.answer.specs.Answer.{gives}
use Rattle.rules.specs.Questions.{ask_count, a_number, reply}
use Rattle.questions.specs.Meaning.{says_number}
use Rattle.questions.proofs.Answers.{unsound-asked, sound-asked}
use Rattle.questions.proofs.count.Goals as goal

pub returns-then-not-sound : goal.returns-then-not-sound
unfolding says_number
returns-then-not-sound c = unsound-asked ask_count c.args.mem.now (c.sound.ensures.1 c.if-not-sound.true)

pub returns : goal.returns
unfolding reply says_number
returns c = sound-asked ask_count c.args.mem.now _ (c.sound.ensures.0 c.if-not-sound.false) (ap (λ (n : ℕ). gives (a_number n)) (c.from.ensures ∙ c.count.ensures))

use Rattle.questions.proofs.Asking.{not_sound}
use Rattle.questions.proofs.seek.Goals as goal

pub returns-then-not-sound : goal.returns-then-not-sound
returns-then-not-sound c = let a = c.args in λ f. not_sound a.mem.now _ (c.sound.ensures.1 c.if-not-sound.true)

pub locate-requires : goal.locate-requires
locate-requires c = c.sound.ensures.0 c.if-not-sound.false

pub returns : goal.returns
returns c = c.locate.ensures

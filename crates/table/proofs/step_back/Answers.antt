use Rattle.lookup.proofs.Theorems.{unsound}
use Rattle.table.proofs.Outcomes.{stepped-back, stepped-not}
use Rattle.table.proofs.step_back.Goals as goal

pub returns-then-not-sound : goal.returns-then-not-sound
returns-then-not-sound c = unsound _ _ (c.sound.ensures.1 c.if-not-sound.true)

pub returns-then-not-undo : goal.returns-then-not-undo
returns-then-not-undo c = stepped-not _ _ _ (c.sound.ensures.0 c.if-not-sound.false) c.undo.ensures c.if-not-undo.true

pub returns : goal.returns
returns c = stepped-back _ _ _ (c.sound.ensures.0 c.if-not-sound.false) c.undo.ensures c.if-not-undo.false

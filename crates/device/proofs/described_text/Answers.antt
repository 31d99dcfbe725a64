use Rattle.rules.proofs.Choices.{told}
use Rattle.device.proofs.Described.{not_described, not_there, there}
use Rattle.device.proofs.described_text.Goals.{then-not-is_set-via-then-not-is_set, then-not-is_set-via-else-not-is_set+then-not-is_set-2}
use Rattle.device.proofs.described_text.Goals as goal

pub returns-then-not-is_set : goal.returns-then-not-is_set
returns-then-not-is_set c = elim c.then-not-is_set.branch [
  | then-not-is_set-via-then-not-is_set w ↦ not_described c.args.room.now _ (told c.is_set.ensures w.if-not-is_set.true)
  | then-not-is_set-via-else-not-is_set+then-not-is_set-2 w ↦ not_there c.args.room.now _ (told c.is_set.ensures w.if-not-is_set.false) (told w.is_set-else-not-is_set.ensures w.if-not-is_set-2.true)
]

pub returns : goal.returns
returns c = there c.args.room.now _ (told c.is_set.ensures c.if-not-is_set.false) (told c.is_set-else-not-is_set.ensures c.if-not-is_set-2.false) c.text_at.ensures

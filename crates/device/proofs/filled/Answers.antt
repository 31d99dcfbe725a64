use mathlib.Core.Path.{ap, ◌∙◌}
use lib.Count.{ones}
use Rattle.device.proofs.Described.{all}
use Rattle.device.proofs.Words.{word_ones}
use Rattle.device.proofs.filled.Goals as goal

pub returns : goal.returns
returns c = ap ones c.value_word.ensures.word ∙ word_ones (all c.args.room.now)

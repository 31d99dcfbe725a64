use mathlib.Core.Path.{refl}
use Rattle.faults.proofs.Laws.{is-told}
use Rattle.properties.proofs.Rules.{judged-good, judged-bad}
use Rattle.properties.proofs.judged_format.Goals as goal

pub returns-then-is_format : goal.returns-then-is_format
returns-then-is_format c = judged-good _ _ _ _ c.is_format.ensures c.if-is_format.true refl refl

pub returns : goal.returns
returns c = judged-bad _ _ _ _ c.is_format.ensures c.if-is_format.false (is-told c.at.ensures)

use Rattle.escapes.proofs.Loops.{same-plain}
use Rattle.escapes.proofs.same.Goals as goal

pub returns-then-is_plain : goal.returns-then-is_plain
returns-then-is_plain c = same-plain _ c.is_plain.ensures c.if-is_plain.true _ c.same.ensures

use Rattle.properties.proofs.Insertion.{precedes-plain}
use Rattle.properties.proofs.precedes.Goals as goal

pub returns-then-plain : goal.returns-then-plain
returns-then-plain c = λ w. precedes-plain _ _ w c.if-plain.true c.precedes.ensures

pub returns : goal.returns
returns c = λ w. c.precedes-2.ensures

use Rattle.verdict.proofs.Found.{never, since}
use Rattle.verdict.proofs.is_due.Goals as goal

pub returns-in-None : goal.returns-in-None
returns-in-None c = never _ _ _ c.last.ensures c.in-None.is

pub returns-in-Some : goal.returns-in-Some
returns-in-Some c = since _ _ _ _ c.last.ensures c.in-Some.is

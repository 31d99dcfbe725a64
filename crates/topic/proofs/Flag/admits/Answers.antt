use Rattle.topic.specs.Flags.{admits}
use Rattle.topic.proofs.Flag.admits.Goals as goal

pub returns-in-Retained : goal.returns-in-Retained
unfolding admits
returns-in-Retained c = rw c.in-Retained.is

pub returns-in-NotRetained : goal.returns-in-NotRetained
unfolding admits
returns-in-NotRetained c = rw c.in-NotRetained.is

pub returns-in-AsProperty : goal.returns-in-AsProperty
unfolding admits
returns-in-AsProperty c = rw c.in-AsProperty.is

pub returns-in-Either : goal.returns-in-Either
unfolding admits
returns-in-Either c = rw c.in-Either.is

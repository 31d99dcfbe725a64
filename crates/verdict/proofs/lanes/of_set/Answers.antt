use Rattle.verdict.proofs.Tests.{set-not, set_invalid, set-valid}
use Rattle.verdict.proofs.lanes.of_set.Goals as goal

pub returns-then-not-settable : goal.returns-then-not-settable
returns-then-not-settable c = set-not _ _ _ c.if-not-settable.true

pub returns-then-not-valid : goal.returns-then-not-valid
returns-then-not-valid c = set_invalid _ _ _ c.if-not-settable.false c.if-not-valid.true

pub returns : goal.returns
returns c = set-valid _ _ _ c.if-not-settable.false c.if-not-valid.false

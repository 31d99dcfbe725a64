use Rattle.verdict.proofs.Tests.{target-emptied, target_invalid, target-valid}
use Rattle.verdict.proofs.lanes.of_target.Goals.{else-not-empty-via-then-not-empty+else-not-valid, else-not-empty-via-else-not-empty}
use Rattle.verdict.proofs.lanes.of_target.Goals as goal

pub returns-then-not-valid : goal.returns-then-not-valid
returns-then-not-valid c = target_invalid _ _ c.if-not-empty.true c.if-not-valid.true

pub returns : goal.returns
returns c =
    elim c.else-not-empty.branch [ else-not-empty-via-then-not-empty+else-not-valid w ↦ target-valid _ _ w.if-not-empty.true w.if-not-valid.false | else-not-empty-via-else-not-empty w ↦ target-emptied _ _ w.if-not-empty.false ]

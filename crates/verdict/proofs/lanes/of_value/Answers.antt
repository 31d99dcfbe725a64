use Rattle.std.proofs.Common.{arith}
use Rattle.std.proofs.lemmas.Grind.{common_steps}
use Rattle.verdict.proofs.Tests.{value-flag, value-valid, value-not, value-emptied, not_yes, not_no}
use Rattle.verdict.proofs.lanes.of_value.Goals.{else-not-valid-via-then-not-valid+else-not-keeps, then-empty, else-empty, else-not-valid-via-else-not-valid}
use Rattle.verdict.proofs.lanes.of_value.Goals as goal

pub returns-then-keeps-retained : goal.returns-then-keeps-retained
returns-then-keeps-retained c = value-flag _ _ _ _ (not_yes _ c.if-keeps-retained.true)

pub returns-then-not-keeps : goal.returns-then-not-keeps
returns-then-not-keeps c = value-not _ _ _ _ (not_no _ c.if-keeps-retained.false) c.if-not-valid.true (grind (arith, common_steps))

pub returns : goal.returns
returns c =
    elim c.else-not-valid.branch [
      | else-not-valid-via-then-not-valid+else-not-keeps w ↦ value-emptied _ _ _ _ (not_no _ c.if-keeps-retained.false) (grind (arith, common_steps)) (grind (arith, common_steps))
      | else-not-valid-via-else-not-valid w ↦ value-valid _ _ _ _ (not_no _ c.if-keeps-retained.false) w.if-not-valid.false
    ]

use Rattle.verdict.proofs.Tests.{allow-value, allow-set, allow-target, of_kind_lem}
use Rattle.verdict.proofs.lanes.refusal.Goals as goal

pub returns-in-Value : goal.returns-in-Value
returns-in-Value c = λ time topic. of_kind_lem _ _ _ _ _ c.in-Value.is (allow-value _ _ _ _ _ _ c.is_empty-empty.ensures _ c.slice.ensures c.judge-valid.ensures c.of_value.ensures)

pub returns-in-Target : goal.returns-in-Target
returns-in-Target c =
    λ time topic. of_kind_lem _ _ _ _ _ c.in-Target.is (allow-target _ _ _ _ _ _ c.is_empty-empty.ensures _ c.slice.ensures c.judge-valid.ensures c.of_target.ensures)

pub returns-in-Asked : goal.returns-in-Asked
returns-in-Asked c = λ time topic. of_kind_lem _ _ _ _ _ c.in-Asked.is (allow-set _ _ _ _ _ _ c.is_empty-empty.ensures _ c.slice.ensures c.judge-valid.ensures c.of_set.ensures)

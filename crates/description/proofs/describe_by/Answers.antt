use Rattle.description.proofs.Whole.{describes_wrong, describes-right, is_not_json, is_json_lem}
use Rattle.description.proofs.describe_by.Goals as goal

pub returns-in-Err : goal.returns-in-Err
returns-in-Err c = λ l u. describes_wrong _ _ _ c.not_json.ensures (is_not_json _ c.mark.ensures.is c.in-Err.is)

pub returns-in-Ok : goal.returns-in-Ok
returns-in-Ok c = λ l u. describes-right _ _ _ c.skip.ensures.is (is_json_lem _ c.mark.ensures.is c.in-Ok.is u l) (c.device_at.ensures c.mark.ensures.table)

use Rattle.faults.proofs.Laws.{told-as}
use Rattle.description.proofs.Device.{relative_no-id, relative-own, relative-other}
use Rattle.description.proofs.relative_rule.Goals as goal

pub returns-then-not-is_id : goal.returns-then-not-is_id
returns-then-not-is_id c = told-as c.at.ensures (relative_no-id _ _ _ c.is_id.ensures c.if-not-is_id.true)

pub returns-then-same : goal.returns-then-same
returns-then-same c = told-as c.at-then-same.ensures (relative-own _ _ _ c.is_id.ensures c.if-not-is_id.false c.same.ensures c.if-same.true)

pub returns : goal.returns
returns c = relative-other _ _ _ c.is_id.ensures c.if-not-is_id.false c.same.ensures c.if-same.false

use Rattle.viewer.proofs.Passing.{opening-number}
use Rattle.viewer.proofs.changes.homie5_open.Goals as goal

pub returns : goal.returns
returns c = opening-number c.open-a.result _ c.open-a.ensures c.outcome_number.ensures

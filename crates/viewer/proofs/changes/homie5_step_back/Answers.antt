use Rattle.viewer.proofs.Passing.{did-number}
use Rattle.viewer.proofs.changes.homie5_step_back.Goals as goal

pub returns : goal.returns
returns c = did-number c.step_back-a.result _ c.step_back-a.ensures c.outcome_number.ensures

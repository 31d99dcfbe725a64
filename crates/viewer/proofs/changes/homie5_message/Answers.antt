use Rattle.viewer.proofs.Passing.{did-number}
use Rattle.viewer.proofs.changes.homie5_message.Goals as goal

pub returns : goal.returns
returns c = did-number c.message-a.result _ c.message-a.ensures c.outcome_number.ensures

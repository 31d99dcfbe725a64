use Rattle.viewer.proofs.Read.{values_are}
use Rattle.viewer.proofs.files.event_values.Goals as goal

pub returns : goal.returns
returns c = rw c.from.ensures (values_are _ _)

use Rattle.text.proofs.Ids.{flat}
use Rattle.text.proofs.id_byte.Goals as goal

pub returns : goal.returns
returns c = flat _

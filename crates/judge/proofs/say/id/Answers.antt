use Rattle.judge.proofs.Saying.{adds-id}
use Rattle.judge.proofs.say.id.Goals as goal

pub returns : goal.returns
returns c = adds-id c.put-next.ensures c.slice.ensures c.put.ensures

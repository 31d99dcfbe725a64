use Rattle.words.proofs.Wording.{put_same}
use Rattle.words.proofs.id.Goals as goal

pub returns : goal.returns
returns c = put_same c.slice.ensures c.put.ensures

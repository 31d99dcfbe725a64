use Rattle.lines.proofs.Adding.{adds_then}
use Rattle.judge.proofs.Saying.{says, three_is}
use Rattle.judge.proofs.say.ids.Goals as goal

pub returns : goal.returns
returns c = says (three_is _ _ _) (adds_then c.id-second.ensures (adds_then c.id-third.ensures c.id.ensures))

use Rattle.handover.proofs.Handing.{judged_empty, judged}
use Rattle.handover.proofs.still_valid.Goals as goal

pub returns-in-None : goal.returns-in-None
returns-in-None c = judged_empty _ _ _ _ c.in-None.is

pub returns-in-Some : goal.returns-in-Some
returns-in-Some c = judged c.args.image.now c.args.p c.args.old.now c.args.lane c.in-Some.lane c.slice.result.now c.slice-in-Some.result.now c.judge.result c.in-Some.is c.slice.ensures c.slice-in-Some.ensures c.judge.ensures

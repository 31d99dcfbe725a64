use Rattle.viewer.proofs.Judged.{taken, not_taken}
use Rattle.viewer.proofs.judgements.homie5_description_judge.Goals as goal

pub returns-in-None : goal.returns-in-None
returns-in-None c = taken _ _ _ c.judge.ensures c.in-None.is

pub returns-in-Some : goal.returns-in-Some
returns-in-Some c = not_taken _ _ _ c.judge.ensures _ c.in-Some.is c.number.ensures c.refusal_code.ensures

use Rattle.payload.proofs.Judging.{judged-missing, judged-given}
use Rattle.payload.proofs.judge_payload.Goals as goal

pub returns-then-given : goal.returns-then-given
returns-then-given c = judged-given _ _ _ _ c.if-given.true c.judge.ensures

pub returns : goal.returns
returns c = judged-missing _ _ _ _ c.if-given.false c.judge_missing.ensures

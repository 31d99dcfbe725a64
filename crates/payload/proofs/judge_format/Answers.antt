use Rattle.payload.proofs.Judging.{format-missing}
use Rattle.payload.proofs.judge_format.Goals as goal

pub returns-then-not-given : goal.returns-then-not-given
returns-then-not-given c = format-missing c.args.d c.args.f.now c.args.given c.if-not-given.true (c.when_missing.ensures c.args.f.now)

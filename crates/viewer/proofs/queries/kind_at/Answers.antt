use mathlib.Core.Path.{sym, ap}
use Rattle.viewer.specs.Lanes.{kind_at}
use Rattle.viewer.proofs.LaneNumbers.{other_kind}
use Rattle.viewer.proofs.queries.kind_at.Goals as goal

pub returns-then-kind-eq0 : goal.returns-then-kind-eq0
unfolding kind_at
returns-then-kind-eq0 c = sym (ap kind_at c.if-kind-eq0.true)

pub returns-then-kind-eq1 : goal.returns-then-kind-eq1
unfolding kind_at
returns-then-kind-eq1 c = sym (ap kind_at c.if-kind-eq1.true)

pub returns : goal.returns
returns c = other_kind _ c.if-kind-eq0.false c.if-kind-eq1.false

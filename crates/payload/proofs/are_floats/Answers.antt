use Rattle.payload.proofs.Parting.{stopped, one_more, ended}
use Rattle.payload.proofs.are_floats.Goals as goal

pub returns-in_default : goal.returns-in_default
returns-in_default c = stopped c.loop-m.invariant c.loop-m-test.true c.component.ensures c.in_default.is

pub loop-m-preserved : goal.loop-m-preserved
loop-m-preserved c = one_more c.loop-m.invariant c.loop-m-test.true c.component.ensures c.in-Some.is

pub returns : goal.returns
returns c = ended c.loop-m.invariant c.loop-m-test.false

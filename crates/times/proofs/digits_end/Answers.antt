use native.Mathlib.Omega.{arith}
use Rattle.times.proofs.Bytes.{passed_go, passed-stop, passed-all}
use Rattle.times.proofs.digits_end.Goals as goal

pub returns-then-is_none : goal.returns-then-is_none
returns-then-is_none c = passed-stop _ _ _ c.loop-e.invariant c.digit.ensures c.if-is_none.ensures

pub loop-e-preserved : goal.loop-e-preserved
loop-e-preserved c = passed_go _ _ _ c.loop-e.invariant (omega arith) c.digit.ensures c.if-is_none.ensures

pub returns : goal.returns
returns c = omega (arith, passed-all _ _ _ c.loop-e.invariant (omega arith))

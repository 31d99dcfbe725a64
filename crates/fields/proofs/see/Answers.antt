use Rattle.fields.proofs.Numbers.{saw-none, saw-name, saw-first, saw-again}
use native.Mathlib.Omega.{arith}
use Rattle.fields.proofs.see.Goals as goal

pub returns-in_default : goal.returns-in_default
returns-in_default c = saw-none _ _ c.in_default.is

pub returns-then-seen-c-eq0 : goal.returns-then-seen-c-eq0
returns-then-seen-c-eq0 c = saw-name _ _ _ c.in-Some.is c.number-c.ensures.is (saw-first _ _ _ (omega arith) c.told-seen c.if-seen-c-eq0.true)

pub returns-else-seen-c-eq0 : goal.returns-else-seen-c-eq0
returns-else-seen-c-eq0 c = saw-name _ _ _ c.in-Some.is c.number-c.ensures.is (saw-again _ _ _ (omega arith) c.told-seen c.if-seen-c-eq0.false)

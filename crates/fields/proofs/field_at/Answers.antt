use native.Mathlib.Omega.{arith}
use Rattle.fields.proofs.Numbers.{at_none, at_some}
use Rattle.fields.proofs.field_at.Goals as goal

pub returns-then-c-ge16 : goal.returns-then-c-ge16
returns-then-c-ge16 c = λ h. absurd (omega (arith, c.if-c-ge16.true))

pub returns-then-k-eq0 : goal.returns-then-k-eq0
returns-then-k-eq0 c = λ h. at_none _ _ c.if-k-eq0.true

pub returns : goal.returns
returns c = λ h. at_some _ _ c.if-k-eq0.false

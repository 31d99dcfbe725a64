use native.Mathlib.Omega.{arith}
use Rattle.fields.proofs.Numbers.{number-half, number-long, number-decoded}
use Rattle.fields.proofs.escaped_field.Goals as goal

pub returns-then-n-gt16 : goal.returns-then-n-gt16
returns-then-n-gt16 c = number-long _ _ c.decode_at.ensures c.in-Ok.is (omega (arith, c.if-n-gt16.true))

pub returns-in-Err : goal.returns-in-Err
returns-in-Err c = number-half _ _ c.decode_at.ensures c.in-Err.is

pub returns-else-n-gt16 : goal.returns-else-n-gt16
returns-else-n-gt16 c = number-decoded _ _ c.named.ensures c.decode_at.ensures c.in-Ok.is (omega (arith, c.if-n-gt16.false)) c.slice.ensures

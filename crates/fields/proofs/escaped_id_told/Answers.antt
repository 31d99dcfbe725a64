use native.Mathlib.Omega.{arith}
use Rattle.faults.proofs.Laws.{told-as}
use Rattle.fields.proofs.Decoded.{id-half, id_too-long, id-decoded}
use Rattle.fields.proofs.escaped_id_told.Goals as goal

pub returns-then-n-gt32 : goal.returns-then-n-gt32
returns-then-n-gt32 c = told-as c.at-then-n-gt32.ensures (id_too-long _ _ c.decode_at.ensures c.in-Ok.is (omega (arith, c.if-n-gt32.true)))

pub returns-in-Err : goal.returns-in-Err
returns-in-Err c = told-as c.at.ensures (id-half _ _ c.decode_at.ensures c.in-Err.is)

pub returns-else-n-gt32 : goal.returns-else-n-gt32
returns-else-n-gt32 c = id-decoded _ _ c.decode_at.ensures c.in-Ok.is (omega (arith, c.if-n-gt32.false)) c.slice.ensures c.is_id-is_id.ensures c.rule_told.ensures

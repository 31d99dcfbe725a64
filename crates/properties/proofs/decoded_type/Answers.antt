use mathlib.Core.Path.{refl}
use native.Mathlib.Omega.{arith}
use Rattle.faults.proofs.Laws.{is-told}
use Rattle.properties.proofs.Rules.{type-half, type-long, type-decoded}
use Rattle.properties.proofs.decoded_type.Goals as goal

pub returns-then-n-gt16 : goal.returns-then-n-gt16
returns-then-n-gt16 c = type-long _ _ c.decode_at.ensures _ c.in-Ok.is (omega arith) (is-told c.at-then-n-gt16.ensures) refl

pub returns-in-Err : goal.returns-in-Err
returns-in-Err c = type-half _ _ c.decode_at.ensures _ c.in-Err.is (is-told c.at.ensures) refl

pub returns-else-n-gt16 : goal.returns-else-n-gt16
returns-else-n-gt16 c = type-decoded _ _ c.decode_at.ensures _ c.in-Ok.is refl (omega arith) c.slice.ensures c.type_named.ensures

use mathlib.Core.Path.{refl}
use native.Mathlib.Omega.{arith}
use Rattle.faults.proofs.Laws.{is-told}
use Rattle.properties.proofs.Rules.{format-half, format-long, format-decoded}
use Rattle.properties.proofs.decoded_format.Goals as goal

pub returns-then-n-gt-FORMAT_MOST : goal.returns-then-n-gt-FORMAT_MOST
returns-then-n-gt-FORMAT_MOST c = λ y. format-long _ _ _ c.decode_at.ensures _ c.in-Ok.is (omega arith) (is-told c.at-then-n-gt-FORMAT_MOST.ensures) y

pub returns-in-Err : goal.returns-in-Err
returns-in-Err c = λ y. format-half _ _ _ c.decode_at.ensures _ c.in-Err.is (is-told c.at.ensures)

pub returns-else-n-gt-FORMAT_MOST : goal.returns-else-n-gt-FORMAT_MOST
returns-else-n-gt-FORMAT_MOST c = λ y. format-decoded _ _ _ c.decode_at.ensures _ c.in-Ok.is refl (omega arith) c.slice.ensures c.judged_format.ensures

use native.Mathlib.Omega.{arith}
use Rattle.table.proofs.Obeying.{undescribed}
use Rattle.table.proofs.writing.undescribe.Goals as goal

pub returns : goal.returns
returns c = undescribed _ _ _ _ _ _ _ c.patch.ensures (omega (arith, c.no_description-bytes.type_inv)) c.no_description-bytes.ensures

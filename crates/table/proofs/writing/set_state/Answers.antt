use native.Mathlib.Omega.{arith}
use Rattle.table.proofs.Obeying.{stated}
use Rattle.table.proofs.writing.set_state.Goals as goal

pub returns : goal.returns
returns c = stated _ _ _ _ _ _ _ c.patch.ensures _ (omega (arith, c.state-bytes.type_inv)) c.state-bytes.ensures

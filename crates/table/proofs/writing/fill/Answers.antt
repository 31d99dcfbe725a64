use native.Mathlib.Omega.{arith}
use Rattle.table.proofs.Obeying.{filled}
use Rattle.table.proofs.writing.fill.Goals as goal

pub returns : goal.returns
returns c = filled _ _ _ _ _ _ _ c.patch.ensures _ _ _ c.lane_offset-offset.ensures (omega (arith, c.lane-bytes.type_inv)) c.lane-bytes.ensures

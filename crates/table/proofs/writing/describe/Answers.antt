use native.Mathlib.Omega.{arith}
use Rattle.table.proofs.Obeying.{described, described-not}
use Rattle.table.proofs.writing.describe.Goals as goal

pub returns-in-Some : goal.returns-in-Some
returns-in-Some c = described-not _ _ _ _ _ _ c.describe-d.ensures _ c.in-Some.is

pub slice_bounds-patch-end : goal.slice_bounds-patch-end
slice_bounds-patch-end c = omega (arith, c.hand_over.ensures.long, c.description-image.type_inv)

pub returns : goal.returns
returns c =
    let i = c.description-image in
    described _ _ _ _ _ _ c.describe-d.ensures c.in_default.is i.result (omega (arith, i.type_inv)) i.ensures _ _ c.room.ensures c.hand_over.ensures _ _ 7789 c.patch.ensures (omega (arith, i.type_inv, c.hand_over.ensures.long))

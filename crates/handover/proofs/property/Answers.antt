use native.Mathlib.Omega.{arith}
use Rattle.handover.proofs.Handing.{nothing-found, one_found}
use Rattle.handover.proofs.property.Goals as goal

pub returns-then-properties-j : goal.returns-then-properties-j
returns-then-properties-j c =
    nothing-found _ _ _ _ c.property_at-p.ensures _ _ _ c.slice.ensures c.slice-2.ensures c.find_property-j.ensures (omega (arith, c.properties.ensures, c.if-properties-j.true))

pub shape_of-image : goal.shape_of-image
shape_of-image c = c.lanes.ensures.long

pub returns : goal.returns
returns c =
    one_found _ _ _ _ c.property_at-p.ensures _ _ _ c.slice.ensures c.slice-2.ensures c.find_property-j.ensures (omega (arith, c.properties.ensures, c.if-properties-j.false)) _ c.property_at.ensures _ c.lanes.ensures

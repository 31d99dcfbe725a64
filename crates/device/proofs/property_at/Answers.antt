use Rattle.device.specs.Layout.{record_at}
use Rattle.device.proofs.Lanes.{record_in}
use Rattle.device.proofs.property_at.Goals as goal

pub returns : goal.returns
returns c =
    let a = c.args in
    record_in a.room.now c.record_at-a.result _ c.byte.result
    c.text_at-node.ensures
    c.text_at-id.ensures
    c.byte.ensures
    c.datatype_at-datatype.ensures
    c.is_set-settable.ensures
    c.is_set-retained.ensures
    c.text_at-format.ensures
    c.lanes_at-lanes.ensures
    (record_at a.i) c.record_at-a.ensures.0

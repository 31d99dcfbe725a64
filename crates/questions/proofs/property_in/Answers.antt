use native.Mathlib.Omega.{arith}
use mathlib.Core.Path.{◌∙◌}
use Rattle.questions.proofs.Rooms.{in-room}
use Rattle.questions.proofs.Shows.{no-property, a-property}
use Rattle.questions.proofs.property_in.Goals as goal

pub room_at-room-requires : goal.room_at-room-requires
room_at-room-requires c = c.requires

pub returns-then-i-n : goal.returns-then-i-n
returns-then-i-n c =
    let a = c.args in no-property a.mem.now c.room_at-room.result.now a.start c.from-n.result c.requires c.room_at-room.ensures (c.from-n.ensures ∙ c.properties.ensures) a.i (omega (arith, c.if-i-n.true))

pub moved-node-requires : goal.moved-node-requires
moved-node-requires c =
    let a = c.args in let w = in-room a.mem.now c.room_at-room.result.now a.start c.requires c.room_at-room.ensures c.property_at.result.declared.node c.property_at.ensures.within.declared.node in (w.ordered, omega (arith, w.inside, c.requires))

pub moved-id-requires : goal.moved-id-requires
moved-id-requires c =
    let a = c.args in let w = in-room a.mem.now c.room_at-room.result.now a.start c.requires c.room_at-room.ensures c.property_at.result.declared.id c.property_at.ensures.within.declared.id in (w.ordered, omega (arith, w.inside, c.requires))

pub moved-format-requires : goal.moved-format-requires
moved-format-requires c =
    let a = c.args in let w = in-room a.mem.now c.room_at-room.result.now a.start c.requires c.room_at-room.ensures c.property_at.result.declared.format c.property_at.ensures.within.declared.format in (w.ordered, omega (arith, w.inside, c.requires))

pub returns : goal.returns
returns c =
    let a = c.args in a-property a.mem.now c.room_at-room.result.now a.start c.from-n.result c.requires c.room_at-room.ensures (c.from-n.ensures ∙ c.properties.ensures) a.i c.property_at.result c.moved-node.result c.moved-id.result c.moved-format.result (omega (arith, c.if-i-n.false)) c.property_at.ensures c.moved-node.ensures c.moved-id.ensures c.moved-format.ensures

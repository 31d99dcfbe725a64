use native.Mathlib.Omega.{arith}
use Rattle.rules.proofs.Choices.{not-some}
use Rattle.questions.proofs.Shows.{no-lane, payload-place, empty-lane, a-lane}
use Rattle.questions.proofs.lane_in.Goals as goal

pub room_at-room-requires : goal.room_at-room-requires
room_at-room-requires c = c.requires

pub returns-then-i-properties : goal.returns-then-i-properties
returns-then-i-properties c =
    let a = c.args in no-lane a.mem.now c.room_at-room.result.now a.start c.properties.result c.requires c.room_at-room.ensures c.properties.ensures a.node.now a.property.now a.kind c.find_property-i.result c.find_property-i.ensures (omega (arith, c.if-i-properties.true))

pub returns-in_default : goal.returns-in_default
returns-in_default c =
    let a = c.args in empty-lane a.mem.now c.room_at-room.result.now a.start c.properties.result c.requires c.room_at-room.ensures c.properties.ensures a.node.now a.property.now a.kind c.find_property-i.result c.find_property-i.ensures c.property_at.result c.lane_of.result (omega (arith, c.if-i-properties.false)) c.property_at.ensures c.lane_of.ensures (not-some _ c.in_default.not-Some)

pub moved-payload-requires : goal.moved-payload-requires
moved-payload-requires c =
    let a = c.args in let w = payload-place a.mem.now c.room_at-room.result.now a.start c.properties.result c.requires c.room_at-room.ensures c.properties.ensures a.node.now a.property.now a.kind c.find_property-i.result c.find_property-i.ensures c.property_at.result c.lane_of.result (omega (arith, c.if-i-properties.false)) c.property_at.ensures c.lane_of.ensures c.in-Some.lane c.in-Some.is in (w.ordered, omega (arith, w.inside, c.requires, c.well_formed.0))

pub returns : goal.returns
returns c =
    let a = c.args in a-lane a.mem.now c.room_at-room.result.now a.start c.properties.result c.requires c.room_at-room.ensures c.properties.ensures a.node.now a.property.now a.kind c.find_property-i.result c.find_property-i.ensures c.property_at.result c.lane_of.result (omega (arith, c.if-i-properties.false)) c.property_at.ensures c.lane_of.ensures c.in-Some.lane c.moved-payload.result c.in-Some.is c.moved-payload.ensures

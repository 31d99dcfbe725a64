use Rattle.std.proofs.lemmas.Result.{err_from_is_err_and}
use Rattle.device.proofs.Theorems.{at_most}
use Rattle.verdict.proofs.Filling.{lane-unknown, no-property, lane-refused, lane-filled, here, place_of, there}
use native.Mathlib.Omega.{arith}
use Rattle.verdict.proofs.Found.{ranked}
use Rattle.verdict.proofs.Filling.{lane-unknown}
use Rattle.verdict.proofs.lanes.lane.Goals as goal

pub returns-then-count-rank : goal.returns-then-count-rank
returns-then-count-rank c =
    λ time. lane-unknown _ _ _ _ _ _ _ _ (ranked _ _ _ _ c.find-rank.ensures c.slice.ensures) (omega (arith, c.count.ensures, c.if-count-rank.true))

pub returns-then-properties-i : goal.returns-then-properties-i
returns-then-properties-i c =
    λ time. no-property _ _ _ _ _ _ _ _ (ranked _ _ _ _ c.find-rank.ensures c.slice.ensures) (omega (arith, c.count.ensures, c.if-count-rank.false)) _ (here _ _ _ c.room-room.ensures (omega (arith, c.count.ensures, c.if-count-rank.false))) _ (place_of _ _ _ _ _ _ c.find_property-i.ensures c.slice-node_id.ensures c.slice-id.ensures) (omega (arith, c.properties.ensures, c.if-properties-i.true))

pub returns-in_err-refusal : goal.returns-in_err-refusal
returns-in_err-refusal c =
    λ time. let p = err_from_is_err_and c.from_residual.result c.from_residual.ensures.1 in rw (p.1, p.2) (lane-refused _ _ _ _ _ _ _ _ (ranked _ _ _ _ c.find-rank.ensures c.slice.ensures) (omega (arith, c.count.ensures, c.if-count-rank.false)) _ (here _ _ _ c.room-room.ensures (omega (arith, c.count.ensures, c.if-count-rank.false))) _ (place_of _ _ _ _ _ _ c.find_property-i.ensures c.slice-node_id.ensures c.slice-id.ensures) _ (omega (arith, c.properties.ensures, c.if-properties-i.false)) (there _ _ _ c.property_at.ensures (omega (arith, c.properties.ensures, c.if-properties-i.false))) _ (c.refusal.ensures time _) _ c.in_err-refusal.was)

pub returns : goal.returns
returns c =
    λ time. lane-filled _ _ _ _ _ _ _ _ (ranked _ _ _ _ c.find-rank.ensures c.slice.ensures) (omega (arith, c.count.ensures, c.if-count-rank.false)) _ (here _ _ _ c.room-room.ensures (omega (arith, c.count.ensures, c.if-count-rank.false))) _ (place_of _ _ _ _ _ _ c.find_property-i.ensures c.slice-node_id.ensures c.slice-id.ensures) _ (omega (arith, c.properties.ensures, c.if-properties-i.false)) (there _ _ _ c.property_at.ensures (omega (arith, c.properties.ensures, c.if-properties-i.false))) _ (c.refusal.ensures time _) _ c.in_ok-refusal.was (at_most _)

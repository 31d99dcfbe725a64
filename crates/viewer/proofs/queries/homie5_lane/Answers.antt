use Rattle.viewer.proofs.LaneNumbers.{lane-promise}
use Rattle.viewer.proofs.queries.homie5_lane.Goals as goal

pub returns : goal.returns
returns c =
    record { answer = c.lane_of-a.result; promise = lane-promise _ _ _ _ _ _ _ _ c.lane_of-a.ensures c.kind_at.ensures; reply = c.tell_held.ensures }

use Rattle.rules.proofs.Choices.{told}
use Rattle.device.proofs.Lanes.{filled_lane, empty_lane}
use Rattle.device.proofs.lane_at.Goals as goal

pub returns-then-not-is_set : goal.returns-then-not-is_set
returns-then-not-is_set c = empty_lane _ _ (told c.is_set.ensures c.if-not-is_set.true)

pub returns : goal.returns
returns c = filled_lane _ _ _ _ (told c.is_set.ensures c.if-not-is_set.false) c.get-time.ensures.0 c.text_at-payload.ensures

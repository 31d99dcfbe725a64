use mathlib.Core.Path.{◌∙◌}
use Rattle.handover.proofs.Handing.{both-handed}
use Rattle.handover.proofs.lanes.Goals as goal

pub shape_of-image : goal.shape_of-image
shape_of-image c = c.hand_on-2.ensures.long ∙ c.hand_on.ensures.long

pub returns : goal.returns
returns c =
    both-handed _ _ _ _ _ _ _ c.lane_of-value.ensures c.lane_of-target.ensures c.keeps_value-keep_value.ensures c.still_valid-keep_target.ensures c.hand_on.ensures c.hand_on-2.ensures

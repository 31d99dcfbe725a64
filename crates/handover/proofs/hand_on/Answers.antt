use Rattle.rules.proofs.Choices.{not-some}
use Rattle.handover.proofs.Handing.{not-handed, none-handed, set_long, was-handed}
use Rattle.handover.proofs.hand_on.Goals as goal

pub returns-then-not-kept : goal.returns-then-not-kept
returns-then-not-kept c = not-handed _ _ _ _ _ _ c.if-not-kept.true

pub returns-in_default : goal.returns-in_default
returns-in_default c = none-handed _ _ _ _ _ _ c.if-not-kept.false (not-some _ c.in_default.not-Some)

pub shape_of-image : goal.shape_of-image
shape_of-image c = set_long _ _ _ _ _ c.set_lane.ensures

pub returns : goal.returns
returns c = was-handed _ _ _ _ _ _ _ c.in-Some.lane _ c.if-not-kept.false c.in-Some.is c.slice.ensures c.set_lane.ensures

use Rattle.device.proofs.lanes_at.Goals as goal

pub returns : goal.returns
returns c = record { value = c.lane_at-value.ensures; target = c.lane_at-target.ensures; asked = c.lane_at-asked.ensures }

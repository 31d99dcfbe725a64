use Rattle.device.specs.Decode.{device_of}
use Rattle.device.proofs.id.Goals as goal

pub returns : goal.returns
unfolding device_of
returns c = c.text_at.ensures

use Rattle.device.specs.Decode.{device_of}
use Rattle.device.proofs.time.Goals as goal

pub returns : goal.returns
unfolding device_of
returns c = c.get.ensures.0

use mathlib.Core.Path.{ap, ◌∙◌}
use Rattle.rules.specs.States.{state_at}
use Rattle.device.specs.Decode.{device_of}
use Rattle.device.proofs.state.Goals as goal

pub returns : goal.returns
unfolding device_of
returns c = c.state_at.ensures ∙ ap state_at c.byte.ensures

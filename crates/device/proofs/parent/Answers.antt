use Rattle.device.proofs.Described.{parent-shown}
use Rattle.device.proofs.parent.Goals as goal

pub returns : goal.returns
returns c = parent-shown c.args.room.now c.described_text.ensures

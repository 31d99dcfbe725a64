use Rattle.device.proofs.Described.{root-shown}
use Rattle.device.proofs.root.Goals as goal

pub returns : goal.returns
returns c = root-shown c.args.room.now c.described_text.ensures

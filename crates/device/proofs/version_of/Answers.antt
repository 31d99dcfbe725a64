use Rattle.rules.proofs.Choices.{told}
use Rattle.device.proofs.Described.{no-version, version_is_lem}
use Rattle.device.proofs.version_of.Goals as goal

pub returns-else-is_set : goal.returns-else-is_set
returns-else-is_set c = no-version c.args.room.now (told c.is_set.ensures c.if-is_set.false)

pub returns-then-is_set : goal.returns-then-is_set
returns-then-is_set c = version_is_lem c.args.room.now _ (told c.is_set.ensures c.if-is_set.true) c.get.ensures.0

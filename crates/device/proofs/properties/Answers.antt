use native.Mathlib.Omega.{arith}
use Rattle.rules.proofs.Choices.{told}
use Rattle.device.proofs.Described.{length_none, length-all}
use Rattle.device.proofs.properties.Goals as goal

pub returns-then-not-is_set : goal.returns-then-not-is_set
returns-then-not-is_set c = length_none c.args.room.now (told c.is_set.ensures c.if-not-is_set.true)

pub returns : goal.returns
returns c =
    let h = length-all c.args.room.now (told c.is_set.ensures c.if-not-is_set.false) in
    omega (arith, h, c.min.ensures, c.byte.ensures)

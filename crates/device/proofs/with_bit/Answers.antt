use native.Mathlib.Omega.{arith}
use Rattle.device.proofs.Words.{bit_kept, bit_added}
use Rattle.device.proofs.with_bit.Goals as goal

pub returns-else-set : goal.returns-else-set
returns-else-set c = bit_kept c.args.set _ _ c.if-set.false

pub returns-then-set : goal.returns-then-set
returns-then-set c = bit_added c.args.set _ _ c.if-set.true (omega arith) (omega arith)

use native.Mathlib.Omega.{arith}
use Rattle.memory.proofs.Seen.{total-none, total-next}
use Rattle.memory.proofs.marked.Goals as goal

pub loop-k-init : goal.loop-k-init
loop-k-init c = (total-none _, omega arith)

pub loop-k-preserved : goal.loop-k-preserved
loop-k-preserved c = (total-next _ _ _ c.loop-k.invariant.0, omega (arith, c.requires.1 c.loop-k.k (omega arith)))

use native.Mathlib.Omega.{arith}
use borrow.Author.Tests.{lt-ltb, le-ltb}
use Rattle.memory.specs.State.{place}
use Rattle.journal.proofs.ring.place_before.Goals as goal

pub returns-then-h-gt0 : goal.returns-then-h-gt0
unfolding place
returns-then-h-gt0 c = simp (lt-ltb _ _ c.if-h-gt0.true) (omega arith)

pub returns-else-h-gt0 : goal.returns-else-h-gt0
unfolding place
returns-else-h-gt0 c = simp (le-ltb 0 c.args.h c.if-h-gt0.false) (omega arith)

use Prim.Native.Nat.{◌-◌}
use lib.ListN.{length}
use Rattle.escapes.proofs.Loops.{Seeking}
use Rattle.escapes.proofs.half.Given as goal

abbrev pub invariant-loop-at : goal.invariant-loop-at
invariant-loop-at l = Seeking l.raw l.at

abbrev pub decreases-loop-at : goal.decreases-loop-at
decreases-loop-at l = length l.raw - l.at

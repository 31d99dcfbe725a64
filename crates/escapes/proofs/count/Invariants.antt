use Prim.Native.Nat.{◌*◌, ◌-◌}
use lib.ListN.{length}
use Rattle.escapes.proofs.Loops.{Counting}
use Rattle.escapes.proofs.count.Given as goal

abbrev pub invariant-loop-p : goal.invariant-loop-p
invariant-loop-p l = Counting l.raw l.i l.o l.n

abbrev pub decreases-loop-p : goal.decreases-loop-p
decreases-loop-p l = 4 * (length l.raw - l.i) - l.o

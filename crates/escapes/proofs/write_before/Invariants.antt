use Prim.Native.Nat.{◌*◌, ◌-◌}
use lib.ListN.{length}
use Rattle.escapes.proofs.Orders.{Racing}
use Rattle.escapes.proofs.write_before.Given as goal

abbrev pub invariant-loop-x : goal.invariant-loop-x
invariant-loop-x l = Racing l.a l.b l.i l.o l.j l.p

abbrev pub decreases-loop-x : goal.decreases-loop-x
decreases-loop-x l = 4 * (length l.a - l.i) - l.o

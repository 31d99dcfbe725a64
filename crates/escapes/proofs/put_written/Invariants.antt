use Rattle.escapes.proofs.Buffers.{Filling}
use Rattle.escapes.proofs.put_written.Given as goal

abbrev pub invariant-loop-slot : goal.invariant-loop-slot
invariant-loop-slot l = Filling l.raw l.initial.out l.out l.i l.o l.slot-index

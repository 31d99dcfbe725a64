use Rattle.escapes.proofs.Loops.{Comparing}
use Rattle.escapes.proofs.writes.Given as goal

abbrev pub invariant-loop-c : goal.invariant-loop-c
invariant-loop-c l = Comparing l.raw l.name l.i l.o l.c-index

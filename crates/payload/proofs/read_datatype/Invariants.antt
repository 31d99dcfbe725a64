use Rattle.payload.proofs.Judging.{Asking}
use Rattle.payload.proofs.read_datatype.Given as goal

abbrev pub invariant-loop-d : goal.invariant-loop-d
invariant-loop-d l = Asking l.s l.d-index

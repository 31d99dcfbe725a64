use Rattle.times.proofs.Bytes.{Passed}
use Rattle.times.proofs.digits_end.Given as goal

abbrev pub invariant-loop-e : goal.invariant-loop-e
invariant-loop-e l = Passed l.s l.at l.e

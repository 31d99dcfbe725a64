use Rattle.numbers.proofs.Naturals.{SoFar}
use Rattle.numbers.proofs.integers.read_natural.Given as goal

abbrev pub invariant-loop-d : goal.invariant-loop-d
invariant-loop-d l = SoFar l.s l.a l.d-index

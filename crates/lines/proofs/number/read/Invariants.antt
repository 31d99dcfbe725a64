use Rattle.lines.proofs.Numerals.{SoFar}
use Rattle.lines.proofs.number.read.Given as goal

abbrev pub invariant-loop-b : goal.invariant-loop-b
invariant-loop-b l = SoFar l.w l.a l.b-index

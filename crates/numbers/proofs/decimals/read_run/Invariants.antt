use Rattle.numbers.proofs.Runs.{Running}
use Rattle.numbers.proofs.decimals.read_run.Given as goal

abbrev pub invariant-loop-i : goal.invariant-loop-i
invariant-loop-i l = Running l.s l.from l.limit l.value l.count l.v l.n l.i

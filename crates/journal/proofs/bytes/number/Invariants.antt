use Rattle.journal.specs.Parts.{Over}
use Rattle.journal.proofs.bytes.number.Given as goal

abbrev pub invariant-loop-i : goal.invariant-loop-i
invariant-loop-i l = Over l.initial.order (λ k. k) 0 l.i l.order

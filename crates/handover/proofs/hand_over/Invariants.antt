use Rattle.handover.proofs.Handing.{Handing}
use Rattle.handover.proofs.hand_over.Given as goal

abbrev pub invariant-loop-i : goal.invariant-loop-i
invariant-loop-i l = Handing l.initial.image l.old l.i l.image

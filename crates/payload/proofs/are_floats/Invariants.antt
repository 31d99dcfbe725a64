use Rattle.payload.proofs.Parting.{Going}
use Rattle.payload.proofs.are_floats.Given as goal

abbrev pub invariant-loop-m : goal.invariant-loop-m
invariant-loop-m l = Going l.s l.at l.most l.next l.m-index

use Rattle.memory.specs.Layout.{slot}
use Rattle.memory.specs.Parts.{Hits}
use Rattle.memory.proofs.marks.Given as goal

abbrev pub invariant-loop-t : goal.invariant-loop-t
invariant-loop-t l = Hits (slot l.mem) l.t l.seen

use Prim.Native.Nat.{◌-◌}
use lib.ListN.{length}
use Rattle.json_text.specs.Ends.{Ends}
use Rattle.fields.proofs.Fields.{Turn, Noting}
use Rattle.fields.proofs.known_fields.Given as goal

abbrev pub invariant-loop-member : goal.invariant-loop-member
invariant-loop-member l = Turn (Ends l.s l.ends) l.seen l.i (Noting l.owner l.s l.at l.told l.seen l.i)

abbrev pub decreases-loop-member : goal.decreases-loop-member
decreases-loop-member l = length l.s - l.i

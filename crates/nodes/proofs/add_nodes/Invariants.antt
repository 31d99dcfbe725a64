use Prim.Native.Nat.{◌-◌}
use lib.ListN.{length}
use Rattle.fields.specs.Values.{members}
use Rattle.nodes.proofs.Adding.{Turn, Looping}
use Rattle.nodes.proofs.Nodes.{of_nodes}
use Rattle.nodes.proofs.add_nodes.Given as goal

abbrev pub invariant-loop-member : goal.invariant-loop-member
invariant-loop-member l = Looping l.s l.ends l.i (Turn (of_nodes l.s l.nodes) l.s l.i (members l.s l.nodes) l.initial.l l.l)

abbrev pub decreases-loop-member : goal.decreases-loop-member
decreases-loop-member l = length l.s - l.i

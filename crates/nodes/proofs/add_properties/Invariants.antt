use Prim.Native.Nat.{◌-◌}
use lib.ListN.{length}
use Rattle.fields.specs.Values.{members}
use Rattle.nodes.specs.Parts.{lists}
use Rattle.nodes.proofs.Adding.{Turn, Looping}
use Rattle.nodes.proofs.Nodes.{of_properties}
use Rattle.nodes.proofs.add_properties.Given as goal

abbrev pub invariant-loop-member : goal.invariant-loop-member
invariant-loop-member l = Looping l.s l.ends l.i (Turn (of_properties l.s l.node l.at) l.s l.i (members l.s l.at) (lists l.initial.told l.initial.list) (lists l.told l.list))

abbrev pub decreases-loop-member : goal.decreases-loop-member
decreases-loop-member l = length l.s - l.i

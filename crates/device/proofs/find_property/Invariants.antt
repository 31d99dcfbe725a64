use Prim.Native.Nat.{◌≤◌}
use Rattle.rules.specs.Find.{is_named}
use Rattle.device.proofs.First.{Passed}
use Rattle.device.proofs.find_property.Given as goal

abbrev pub invariant-loop-i : goal.invariant-loop-i
invariant-loop-i l = (l.i ≤ l.n) × Passed l.room (is_named l.node l.id) l.i

use Prim.Native.Nat.{◌+◌, ◌*◌}
use Rattle.lines.proofs.Spelling.{Spelled}
use Rattle.lines.proofs.hex.spell.Given as goal

abbrev pub invariant-loop-i : goal.invariant-loop-i
invariant-loop-i l = Spelled l.initial.out l.at l.s l.out l.i (l.at + 2 * l.i)

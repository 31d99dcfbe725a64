use Prim.Native.Nat.{◌-◌, ◌*◌}
use lib.ListN.{length}
use Rattle.text.specs.Parts.{IdBytes}
use Rattle.text.proofs.id_blocks.Given as goal

abbrev pub invariant-loop-k : goal.invariant-loop-k
invariant-loop-k l = IdBytes l.s (length l.s - 8 * l.k) (length l.s)

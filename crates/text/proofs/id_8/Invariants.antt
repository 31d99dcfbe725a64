use Rattle.text.specs.Parts.{Decides, IdBytes}
use Rattle.text.proofs.id_8.Given as goal

abbrev pub invariant-loop-k : goal.invariant-loop-k
invariant-loop-k l = Decides (IdBytes l.s l.i l.k) l.all

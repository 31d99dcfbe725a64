use Rattle.text.specs.Parts.{Ascii}
use Rattle.text.proofs.pass_bytes.Given as goal

abbrev pub invariant-loop-i : goal.invariant-loop-i
invariant-loop-i l = Ascii l.s l.at l.i

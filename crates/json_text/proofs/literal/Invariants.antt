use Rattle.json_text.proofs.Values.{Spelling}
use Rattle.json_text.proofs.literal.Given as goal

abbrev pub invariant-loop-i : goal.invariant-loop-i
invariant-loop-i l = Spelling l.w l.s l.at l.i

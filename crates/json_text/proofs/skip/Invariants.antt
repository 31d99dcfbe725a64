use Rattle.json_text.proofs.Bytes.{Passing}
use Rattle.json_text.specs.Bytes.{is_ws}
use Rattle.json_text.proofs.skip.Given as goal

abbrev pub invariant-loop-i : goal.invariant-loop-i
invariant-loop-i l = Passing is_ws l.s l.at l.i

use Rattle.json_text.proofs.Strings.{Escaping}
use Rattle.json_text.proofs.string.escape.Given as goal

abbrev pub invariant-loop-i : goal.invariant-loop-i
invariant-loop-i l = Escaping l.s l.at l.t l.i

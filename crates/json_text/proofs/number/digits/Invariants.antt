use Rattle.json_text.proofs.Bytes.{Passing}
use Rattle.json_text.specs.Number.{is_digit}
use Rattle.json_text.proofs.number.digits.Given as goal

abbrev pub invariant-loop-i : goal.invariant-loop-i
invariant-loop-i l = Passing is_digit l.s l.at l.i

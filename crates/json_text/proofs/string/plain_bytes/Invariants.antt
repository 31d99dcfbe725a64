use Rattle.json_text.specs.Parts.{Run}
use Rattle.json_text.proofs.string.plain_bytes.Given as goal

abbrev pub invariant-loop-i : goal.invariant-loop-i
invariant-loop-i l = Run l.s l.at l.i

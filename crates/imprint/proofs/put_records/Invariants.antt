use Rattle.imprint.proofs.Records.{Rows}
use Rattle.imprint.proofs.put_records.Given as goal

abbrev pub invariant-loop-i : goal.invariant-loop-i
invariant-loop-i l = Rows l.initial.room l.s l.l.items l.i l.room

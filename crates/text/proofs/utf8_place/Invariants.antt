use Rattle.text.specs.Utf8Place.{due}
use Rattle.text.proofs.Utf8Place.{Reaching}
use Rattle.text.proofs.utf8_place.Given as goal

abbrev pub invariant-loop-i : goal.invariant-loop-i
invariant-loop-i l = Reaching l.s (due l.count l.lo l.hi) l.i

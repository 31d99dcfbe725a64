use Rattle.std.proofs.Common.{◌≡◌, length, ◌+◌, ◌-◌, true}
use Rattle.text.specs.Bytes.{slice}
use Rattle.entries.specs.Parts.{from}
use Rattle.entries.specs.Entries.{is_in, is_list}
use Rattle.entries.proofs.From.{good}
use Rattle.entries.proofs.is_list.Given as goal

abbrev pub invariant-loop-other : goal.invariant-loop-other
invariant-loop-other l = (l.ok ≡ true) × (is_in (slice l.s l.entry.start l.entry.end) (from l.s l.entry.next) ≡ is_in (slice l.s l.entry.start l.entry.end) (from l.s l.j))

abbrev pub decreases-loop-other : goal.decreases-loop-other
decreases-loop-other l = length l.s + 1 - l.j

abbrev pub invariant-entries : goal.invariant-entries
invariant-entries l = (l.ok ≡ true) × (is_list l.s ≡ good (from l.s l.i))

abbrev pub decreases-entries : goal.decreases-entries
decreases-entries l = length l.s + 1 - l.i

use Prim.Native.Nat.{◌-◌}
use lib.ListN.{length}
use Rattle.json_text.specs.Members.{element_at}
use Rattle.json_text.specs.Ends.{Ends}
use Rattle.faults.specs.Faults.{least}
use Rattle.fields.specs.Values.{elements}
use Rattle.fields.specs.Fields.{among}
use Rattle.fields.specs.Parts.{item_faults}
use Rattle.fields.proofs.Walk.{Telling}
use Rattle.fields.proofs.array_told.Given as goal

abbrev pub invariant-loop-element : goal.invariant-loop-element
invariant-loop-element l = Ends l.s l.ends → Telling (element_at l.s) (λ m. item_faults l.ids l.s m.value) (length l.s) l.told l.i (least (among (λ m. item_faults l.ids l.s m.value) (elements l.s l.at)))

abbrev pub decreases-loop-element : goal.decreases-loop-element
decreases-loop-element l = length l.s - l.i

use lib.ListN.{take}
use Rattle.json_text.specs.Ends.{Ends}
use Rattle.properties.specs.Property.{insert}
use Rattle.properties.specs.Entries.{content, contents}
use Rattle.properties.proofs.Insertion.{Carrying}
use Rattle.properties.proofs.insert.Given as goal

abbrev pub invariant-loop-j : goal.invariant-loop-j
invariant-loop-j l = Carrying (Ends l.s l.ends) l.s l.n l.e (insert (content l.s l.e) (contents l.s (take l.n l.initial.items))) l.items l.carry l.placed l.j

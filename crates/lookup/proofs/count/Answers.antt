use Rattle.lookup.proofs.Ranks.{all_slots, all-counted}
use Rattle.lookup.proofs.count.Goals as goal

pub returns-then-d-n : goal.returns-then-d-n
returns-then-d-n c = all_slots _ _ _ c.slots-d.ensures.0 c.byte-n.ensures c.if-d-n.true

pub returns-else-d-n : goal.returns-else-d-n
returns-else-d-n c = all-counted _ _ _ c.slots-d.ensures.0 c.byte-n.ensures c.if-d-n.false

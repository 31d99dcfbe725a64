use Rattle.escapes.proofs.Walk.{stepped}
use Rattle.escapes.proofs.Buffers.{filling, filling-ends, filling-more}
use Rattle.escapes.proofs.put_written.Goals as goal

pub loop-slot-init : goal.loop-slot-init
loop-slot-init c = filling _ _ c.requires.0

pub returns-in-Stop : goal.returns-in-Stop
returns-in-Stop c = filling-ends c.loop-slot.invariant c.requires.1 c.next_byte.ensures c.in-Stop.is

pub loop-slot-preserved : goal.loop-slot-preserved
loop-slot-preserved c = filling-more c.loop-slot.invariant c.requires.1 (stepped _ _ _ c.loop-slot.invariant.place c.next_byte.ensures c.in-Byte.is)

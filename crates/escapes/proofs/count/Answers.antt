use Rattle.escapes.proofs.Walk.{stepped, stopped, over}
use Rattle.escapes.proofs.Loops.{counting, count-stop, count-over, count-more}
use Rattle.escapes.proofs.count.Goals as goal

pub loop-p-init : goal.loop-p-init
loop-p-init c = counting _

pub returns-in-Stop : goal.returns-in-Stop
returns-in-Stop c = count-stop c.loop-p.invariant (stopped _ _ _ c.loop-p.invariant.place c.next_byte.ensures c.in-Stop.is)

pub returns-in-Over : goal.returns-in-Over
returns-in-Over c = count-over c.loop-p.invariant (over _ _ _ c.loop-p.invariant.place c.next_byte.ensures c.in-Over.is)

pub loop-p-smaller : goal.loop-p-smaller
loop-p-smaller c = (stepped _ _ _ c.loop-p.invariant.place c.next_byte.ensures c.in-Byte.is).less

pub loop-p-preserved : goal.loop-p-preserved
loop-p-preserved c = count-more c.loop-p.invariant (stepped _ _ _ c.loop-p.invariant.place c.next_byte.ensures c.in-Byte.is)

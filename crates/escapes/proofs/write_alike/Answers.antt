use Rattle.escapes.proofs.Walk.{stepped, stopped, over}
use Rattle.escapes.proofs.Loops.{pairing, pair-stop, over-over, more_differs, more-more, pair-longer, pair-shorter}
use Rattle.escapes.proofs.write_alike.Goals as goal

pub loop-x-init : goal.loop-x-init
loop-x-init c = pairing _ _

pub returns-then-x-y : goal.returns-then-x-y
returns-then-x-y c =
    more_differs c.loop-x.invariant (stepped _ _ _ c.loop-x.invariant.first c.next_byte.ensures c.in-Byte-Byte.is-0) (stepped _ _ _ c.loop-x.invariant.second c.next_byte-in-loop-x.ensures c.in-Byte-Byte.is-1) c.if-x-y.true

pub loop-x-smaller : goal.loop-x-smaller
loop-x-smaller c = (stepped _ _ _ c.loop-x.invariant.first c.next_byte.ensures c.in-Byte-Byte.is-0).less

pub loop-x-preserved : goal.loop-x-preserved
loop-x-preserved c =
    more-more c.loop-x.invariant (stepped _ _ _ c.loop-x.invariant.first c.next_byte.ensures c.in-Byte-Byte.is-0) (stepped _ _ _ c.loop-x.invariant.second c.next_byte-in-loop-x.ensures c.in-Byte-Byte.is-1) c.if-x-y.false

pub returns-in-Over-Over : goal.returns-in-Over-Over
returns-in-Over-Over c =
    over-over c.loop-x.invariant (over _ _ _ c.loop-x.invariant.first c.next_byte.ensures c.in-Over-Over.is-0) (over _ _ _ c.loop-x.invariant.second c.next_byte-in-loop-x.ensures c.in-Over-Over.is-1)

pub returns-in_default : goal.returns-in_default
returns-in_default c = pair-longer c.loop-x.invariant (stepped _ _ _ c.loop-x.invariant.first c.next_byte.ensures c.in_default.is-0) _ c.next_byte-in-loop-x.ensures c.in_default.not-Byte-1

pub returns-in_default-2 : goal.returns-in_default-2
returns-in_default-2 c = pair-shorter c.loop-x.invariant (over _ _ _ c.loop-x.invariant.first c.next_byte.ensures c.in_default.is-0) _ c.next_byte-in-loop-x.ensures c.in_default.not-Over-1

pub returns-in_default-3 : goal.returns-in_default-3
returns-in_default-3 c = pair-stop c.loop-x.invariant (stopped _ _ _ c.loop-x.invariant.first c.next_byte.ensures c.in_default.is-0)

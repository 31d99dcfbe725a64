use Rattle.escapes.proofs.Walk.{stepped, stopped, over}
use Rattle.escapes.proofs.Orders.{racing, race_no, race-late, race-short, race_differs, race-more}
use Rattle.escapes.proofs.write_before.Goals as goal

pub loop-x-init : goal.loop-x-init
loop-x-init c = racing _ _ c.requires.0 c.requires.1

pub returns-then-x-y : goal.returns-then-x-y
returns-then-x-y c =
    race_differs c.loop-x.invariant (stepped _ _ _ c.loop-x.invariant.second c.next_byte-in-loop-x.ensures c.in-Byte-Byte.is-1) (stepped _ _ _ c.loop-x.invariant.first c.next_byte.ensures c.in-Byte-Byte.is-0) c.if-x-y.true

pub loop-x-smaller : goal.loop-x-smaller
loop-x-smaller c = (stepped _ _ _ c.loop-x.invariant.first c.next_byte.ensures c.in-Byte-Byte.is-0).less

pub loop-x-preserved : goal.loop-x-preserved
loop-x-preserved c =
    race-more c.loop-x.invariant (stepped _ _ _ c.loop-x.invariant.second c.next_byte-in-loop-x.ensures c.in-Byte-Byte.is-1) (stepped _ _ _ c.loop-x.invariant.first c.next_byte.ensures c.in-Byte-Byte.is-0) c.if-x-y.false

pub returns-in-Over-Byte : goal.returns-in-Over-Byte
returns-in-Over-Byte c =
    race-short c.loop-x.invariant (stepped _ _ _ c.loop-x.invariant.second c.next_byte-in-loop-x.ensures c.in-Over-Byte.is-1) (over _ _ _ c.loop-x.invariant.first c.next_byte.ensures c.in-Over-Byte.is-0)

pub returns-in_default : goal.returns-in_default
returns-in_default c = race-late c.loop-x.invariant _ c.next_byte-in-loop-x.ensures c.in_default.not-Byte-1

pub returns-in_default-2 : goal.returns-in_default-2
returns-in_default-2 c = race-late c.loop-x.invariant _ c.next_byte-in-loop-x.ensures c.in_default.not-Byte-1

pub returns-in_default-3 : goal.returns-in_default-3
returns-in_default-3 c = race_no c.loop-x.invariant (stopped _ _ _ c.loop-x.invariant.first c.next_byte.ensures c.in_default.is-0)

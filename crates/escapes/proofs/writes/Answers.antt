use Rattle.escapes.proofs.Walk.{stepped}
use Rattle.escapes.proofs.Loops.{comparing, compare_differs, compare-short, compare-more, compare-all, compare-rest}
use Rattle.escapes.proofs.writes.Goals as goal

pub loop-c-init : goal.loop-c-init
loop-c-init c = comparing _ _

pub returns-then-b-c : goal.returns-then-b-c
returns-then-b-c c = compare_differs c.loop-c.invariant (stepped _ _ _ c.loop-c.invariant.place c.next_byte.ensures c.in-Byte.is) c.loop-c-test.true c.if-b-c.true

pub returns-in-Stop : goal.returns-in-Stop
returns-in-Stop c = compare-short c.loop-c.invariant c.loop-c-test.true c.next_byte.ensures c.in-Stop.is

pub loop-c-preserved : goal.loop-c-preserved
loop-c-preserved c = compare-more c.loop-c.invariant (stepped _ _ _ c.loop-c.invariant.place c.next_byte.ensures c.in-Byte.is) c.loop-c-test.true c.if-b-c.false

pub returns-in-Over : goal.returns-in-Over
returns-in-Over c = compare-all c.loop-c.invariant c.loop-c-test.false c.next_byte-2.ensures c.in-Over.is

pub returns-in_default : goal.returns-in_default
returns-in_default c = compare-rest c.loop-c.invariant c.loop-c-test.false _ c.next_byte-2.ensures c.in_default.not-Over

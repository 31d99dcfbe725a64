use native.Mathlib.Omega.{arith}
use Rattle.escapes.proofs.Loops.{seeking, seek-end, seek-plain, seek-half, seek-char}
use Rattle.escapes.proofs.half.Goals as goal

pub loop-at-init : goal.loop-at-init
loop-at-init c = seeking _

pub returns-in-None : goal.returns-in-None
returns-in-None c = seek-half c.loop-at.invariant (omega arith) c.if-raw-at-eq92.true c.escape_of.ensures c.in-None.is

pub loop-at-preserved-in-Some : goal.loop-at-preserved-in-Some
loop-at-preserved-in-Some c = seek-char c.loop-at.invariant (omega arith) c.if-raw-at-eq92.true c.escape_of.ensures c.in-Some.is c.past-at.ensures

pub loop-at-preserved : goal.loop-at-preserved
loop-at-preserved c = seek-plain c.loop-at.invariant (omega arith) c.if-raw-at-eq92.false

pub returns : goal.returns
returns c = seek-end c.loop-at.invariant (omega arith)

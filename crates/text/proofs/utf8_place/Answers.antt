use native.Mathlib.Omega.{arith}
use mathlib.Core.Path.{◌≡◌}
use lib.ListN.{length}
use Rattle.text.proofs.Utf8Place.{reaching-start, reaching-first, reaching_no-first, reaching-low, reaching-high, reaching_in, reaching-end}
use Rattle.text.proofs.utf8_place.Goals as goal
use Rattle.text.proofs.utf8_place.Goals.{then-count-eq0+in-Some, else-count-eq0+else-b-lo+else-b-hi, then-b-lo-via-then-b-lo, then-b-lo-via-else-b-lo+then-b-hi}

pub loop-i-init : goal.loop-i-init
loop-i-init c = reaching-start _

pub returns-in_default : goal.returns-in_default
returns-in_default c = reaching_no-first c.loop-i.invariant (omega arith) c.if-count-eq0.true c.in_default.ensures

pub returns-then-b-lo : goal.returns-then-b-lo
returns-then-b-lo c =
    elim c.then-b-lo.branch [
      | then-b-lo-via-then-b-lo w ↦ reaching-low c.loop-i.invariant (omega arith) (omega arith) (omega arith)
      | then-b-lo-via-else-b-lo+then-b-hi w ↦ reaching-high c.loop-i.invariant (omega arith) (omega arith) (omega arith) (omega arith)
    ]

pub loop-i-preserved : goal.loop-i-preserved
loop-i-preserved c =
    let v = c.loop-i.invariant in
    elim c.if-count-eq0.branch [
      | then-count-eq0+in-Some w ↦ rw (w.count-is, w.lo-is, w.hi-is) (reaching-first v (omega arith) w.if-count-eq0.true w.in-Some.ensures w.least-lo.ensures w.most-hi.ensures)
      | else-count-eq0+else-b-lo+else-b-hi w ↦ rw (w.count-is, w.lo-is, w.hi-is) (reaching_in v (omega arith) (omega arith) (omega arith) (omega arith))
    ]

pub returns : goal.returns
returns c = let e : c.loop-i.i ≡ length c.args.s.now = omega arith in rw (← e) (reaching-end c.loop-i.invariant (omega arith))

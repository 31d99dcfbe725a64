use Rattle.times.proofs.Durations.{span_none, span_is, span-other}
use Rattle.times.proofs.span_end.Goals as goal
use Rattle.times.proofs.span_end.Goals.{else-e-at-via-then-e-at+else-has, else-e-at-via-else-e-at}

pub returns-then-has : goal.returns-then-has
returns-then-has c = span_is _ _ _ c.digits_end-e.ensures c.if-e-at.true c.has.ensures c.if-has.true

pub returns-else-e-at : goal.returns-else-e-at
returns-else-e-at c =
    elim c.else-e-at.branch [
      | else-e-at-via-then-e-at+else-has w ↦ span-other _ _ _ c.digits_end-e.ensures w.if-e-at.true w.has.ensures w.if-has.false
      | else-e-at-via-else-e-at w ↦ span_none _ _ _ c.digits_end-e.ensures w.if-e-at.false
    ]

use native.Mathlib.Omega.{arith}
use borrow.Author.Rules.{rules}
use Rattle.times.proofs.Durations.{end-most, three_spans}
use Rattle.times.proofs.is_duration.Goals as goal

pub span_end-minutes-requires : goal.span_end-minutes-requires
span_end-minutes-requires c = omega (arith, c.span_end-hours.ensures, (end-most c.args.s.now 2 72).1)

pub span_end-seconds-requires : goal.span_end-seconds-requires
span_end-seconds-requires c =
    let s = c.args.s.now in let h = c.span_end-hours.result in omega (arith, c.span_end-hours.ensures, c.span_end-minutes.ensures, (end-most s 2 72).1, (end-most s h 77).1)

pub returns-then-seconds-ne2 : goal.returns-then-seconds-ne2
returns-then-seconds-ne2 c = rw (three_spans c.args.s.now c.span_end-hours.ensures c.span_end-minutes.ensures c.span_end-seconds.ensures) (search rules)

pub returns-else-seconds-ne2 : goal.returns-else-seconds-ne2
returns-else-seconds-ne2 c = rw (three_spans c.args.s.now c.span_end-hours.ensures c.span_end-minutes.ensures c.span_end-seconds.ensures) (search rules)

use mathlib.Core.Path.{sym, ap, ◌∙◌}
use mathlib.Core.Bool.{true}
use Rattle.numbers.specs.Step.{size}
use Rattle.numbers.proofs.Bounds.{no_step, no-base, stepped, base_or, some-size, at_step}
use Rattle.numbers.proofs.steps.in_range.Goals as goal

pub returns-in_default : goal.returns-in_default
returns-in_default c = let a = c.args in no_step a.v _ a.min a.max _ (ap size c.in_default.is) c.hold.ensures

pub returns-in-Some-or : goal.returns-in-Some-or
returns-in-Some-or c =
    let a = c.args in
    stepped a.v _ a.min a.max _ c.or.result (some-size _ c.in-Some.is) (base_or a.min a.max c.or.ensures) c.in-Some-or.b c.to_step.result
    c.in-Some-or.is (at_step c.in-Some-or.b a.v c.to_step.result c.to_step.ensures (ap size c.in-Some.is ∙ sym c.get.ensures.value)) c.hold-in-Some-or.ensures

pub returns-in-None : goal.returns-in-None
returns-in-None c =
    let a = c.args in
    no-base a.v _ a.min a.max true c.or.result (some-size _ c.in-Some.is) (base_or a.min a.max c.or.ensures) c.in-None.is

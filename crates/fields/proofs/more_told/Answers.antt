use mathlib.Core.Path.{sym, ap, ◌∙◌}
use Rattle.faults.specs.Faults.{earlier}
use Rattle.faults.proofs.Laws.{earlier-none, told-as}
use Rattle.fields.proofs.Numbers.{more-other, more-first, more-repeated, more-foreign}
use Rattle.fields.proofs.more_told.Goals as goal

pub returns-in_default : goal.returns-in_default
returns-in_default c = λ h y. c.earlier.ensures ∙ ap (earlier _) (more-other _ _ _ _ c.in_default.is y (c.half_told.ensures h))

pub returns-then-first-eq0 : goal.returns-then-first-eq0
returns-then-first-eq0 c =
    λ h y. sym (earlier-none _) ∙ ap (earlier _) (more-first _ _ _ c.in-Some.is c.number.ensures.is c.number.ensures.low _ y c.if-first-eq0.true)

pub returns-then-is_known : goal.returns-then-is_known
returns-then-is_known c =
    λ h y. c.earlier-then-is_known.ensures ∙ ap (earlier _) (told-as c.at.ensures (more-repeated _ _ _ c.in-Some.is c.number.ensures.is c.number.ensures.low c.is_known.ensures _ y c.if-first-eq0.false c.if-is_known.true))

pub returns : goal.returns
returns c =
    λ h y. sym (earlier-none _) ∙ ap (earlier _) (more-foreign _ _ _ c.in-Some.is c.number.ensures.is c.number.ensures.low c.is_known.ensures _ y c.if-is_known.false)

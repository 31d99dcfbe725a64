use Rattle.std.proofs.Common.{arith, sym, ap, ◌∙◌}
use mathlib.Core.Bool.{not, false≢true}
use borrow.Author.Tests.{eqb-true, eqb-false}
use Rattle.topic.proofs.Levels.{dollar-none, dollar_no, dollar-tail}
use Rattle.topic.proofs.level.is_dollar_id.Goals.{then-not-is_empty, else-not-is_empty}
use Rattle.topic.proofs.level.is_dollar_id.Goals as goal

pub returns-then-s-eq36 : goal.returns-then-s-eq36
returns-then-s-eq36 c =
    elim c.if-not-is_empty.branch [
      | then-not-is_empty w ↦
          let some = eqb-false _ _ (sym c.is_empty.ensures ∙ w.if-not-is_empty.true) in
          c.is_id.ensures ∙ dollar-tail _ (omega (arith, some)) (eqb-true _ _ (sym w.value-is ∙ c.if-s-eq36.true))
      | else-not-is_empty w ↦ absurd (false≢true (sym (w.value-is ∙ ap not w.if-not-is_empty.false) ∙ c.if-s-eq36.true))
    ]

pub returns-else-s-eq36 : goal.returns-else-s-eq36
returns-else-s-eq36 c =
    elim c.if-not-is_empty.branch [
      | then-not-is_empty w ↦
          let some = eqb-false _ _ (sym c.is_empty.ensures ∙ w.if-not-is_empty.true) in
          c.if-s-eq36.false ∙ dollar_no _ (omega (arith, some)) (eqb-false _ _ (sym w.value-is ∙ c.if-s-eq36.false))
      | else-not-is_empty w ↦ w.value-is ∙ ap not w.if-not-is_empty.false ∙ dollar-none _ (eqb-true _ _ (sym c.is_empty.ensures ∙ w.if-not-is_empty.false))
    ]

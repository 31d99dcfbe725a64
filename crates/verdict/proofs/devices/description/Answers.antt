use borrow.Author.Tests.{eqb-true, eqb-false}
use mathlib.Core.Path.{refl, sym, ◌∙◌}
use native.Mathlib.Omega.{arith}
use Rattle.verdict.proofs.Found.{ranked}
use Rattle.verdict.proofs.Descriptions.{undescribed-unknown, undescribe, describe_it}
use Rattle.verdict.proofs.devices.description.Goals as goal

pub returns-then-count-rank : goal.returns-then-count-rank
returns-then-count-rank c =
    λ time retained. undescribed-unknown _ _ _ _ _ (ranked _ _ _ _ c.find-rank.ensures c.slice-id.ensures) (omega (arith, c.count.ensures, c.if-count-rank.true))

pub returns-then-is_empty : goal.returns-then-is_empty
returns-then-is_empty c =
    λ time retained. undescribe _ _ _ _ _ (ranked _ _ _ _ c.find-rank.ensures c.slice-id.ensures) (omega (arith, c.count.ensures, c.if-count-rank.false)) (eqb-true _ _ (sym c.is_empty.ensures ∙ c.if-is_empty.true))

pub returns : goal.returns
returns c =
    λ time retained. describe_it _ _ _ _ _ (ranked _ _ _ _ c.find-rank.ensures c.slice-id.ensures) _ refl (omega (arith, c.count.ensures, c.if-count-rank.false)) (eqb-false _ _ (sym c.is_empty.ensures ∙ c.if-is_empty.false))

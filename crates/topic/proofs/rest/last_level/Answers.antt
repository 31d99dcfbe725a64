use mathlib.Core.Path.{refl, sym, ◌∙◌}
use native.Mathlib.Omega.{arith}
use Rattle.topic.proofs.Answers.{placed, last-none, last-long, last-bad, last_yes}
use Rattle.topic.proofs.rest.last_level.Goals as goal

pub returns-in_default : goal.returns-in_default
returns-in_default g c = λ passes computes. (refl, last-none passes _ _ (sym c.in_default.is ∙ c.next_part.ensures))

pub returns-then-next-topic : goal.returns-then-next-topic
returns-then-next-topic g c = λ passes computes. (refl, last-long passes _ _ _ _ _ (sym c.in-Some.is ∙ c.next_part.ensures) (omega arith))

pub slice_bounds-test-count : goal.slice_bounds-test-count
slice_bounds-test-count g c = let p = placed _ _ _ _ _ (sym c.in-Some.is ∙ c.next_part.ensures) in omega arith

pub slice_bounds-test-start : goal.slice_bounds-test-start
slice_bounds-test-start g c = let p = placed _ _ _ _ _ (sym c.in-Some.is ∙ c.next_part.ensures) in omega arith

pub slice_bounds-test-end : goal.slice_bounds-test-end
slice_bounds-test-end g c = let p = placed _ _ _ _ _ (sym c.in-Some.is ∙ c.next_part.ensures) in omega arith

pub returns-then-not-test : goal.returns-then-not-test
returns-then-not-test g c =
    λ passes computes. (refl, last-bad passes _ _ _ _ _ (sym c.in-Some.is ∙ c.next_part.ensures) (sym (computes _ _ c.test.ensures) ∙ c.if-not-test.true))

pub returns : goal.returns
returns g c =
    λ passes computes. last_yes passes _ _ _ _ _ (sym c.in-Some.is ∙ c.next_part.ensures) (omega arith) (sym (computes _ _ c.test.ensures) ∙ c.if-not-test.false)

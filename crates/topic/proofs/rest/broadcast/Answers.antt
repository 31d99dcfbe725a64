use Rattle.std.proofs.Common.{rules, tests, sym, ◌∙◌}
use Rattle.text.specs.Ids.{is_id}
use native.Mathlib.Omega.{arith}
use Rattle.topic.proofs.Answers.{broadcast-past, broadcast_no, broadcast_yes}
use Rattle.topic.proofs.rest.broadcast.Goals as goal

pub returns-then-at-topic : goal.returns-then-at-topic
returns-then-at-topic c = λ b. broadcast-past _ _ b (omega arith)

pub returns-then-not-all_pass : goal.returns-then-not-all_pass
returns-then-not-all_pass c = λ b. broadcast_no _ _ b (sym (c.all_pass.ensures is_id (λ level r p. search (rules, tests))) ∙ c.if-not-all_pass.true)

pub returns : goal.returns
returns c = λ b. broadcast_yes _ _ b (omega arith) (sym (c.all_pass.ensures is_id (λ level r p. search (rules, tests))) ∙ c.if-not-all_pass.false)

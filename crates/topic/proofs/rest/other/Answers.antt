use Rattle.std.proofs.Common.{rules, tests, ◌≡◌, nat_eq, length, sym, ◌∙◌}
use mathlib.Core.Bool.{not}
use Rattle.topic.specs.Topics.{filled}
use Rattle.topic.proofs.Levels.{filled-is}
use native.Mathlib.Omega.{arith}
use Rattle.topic.proofs.Answers.{word_no, levels_no, other_last, other-more}
use Rattle.topic.proofs.rest.other.Goals as goal

pub slice_bounds-is_dollar_id-count : goal.slice_bounds-is_dollar_id-count
slice_bounds-is_dollar_id-count c = c.requires.1.within.ordered

pub slice_bounds-is_dollar_id-start : goal.slice_bounds-is_dollar_id-start
slice_bounds-is_dollar_id-start c = omega (arith, c.requires.1.within.ordered, c.requires.1.within.inside)

pub slice_bounds-is_dollar_id-end : goal.slice_bounds-is_dollar_id-end
slice_bounds-is_dollar_id-end c = c.requires.1.within.inside

pub returns-then-not-is_dollar_id : goal.returns-then-not-is_dollar_id
returns-then-not-is_dollar_id c = word_no _ _ _ _ c.requires.0 c.requires.1 c.requires.2 c.requires.3 c.requires.4 (sym c.is_dollar_id.ensures ∙ c.if-not-is_dollar_id.true)

pub returns-then-not-all_pass : goal.returns-then-not-all_pass
returns-then-not-all_pass c = levels_no _ _ _ _ c.requires.0 c.requires.1 c.requires.2 c.requires.3 c.requires.4 (sym (c.all_pass.ensures filled (λ level r p. let e : r ≡ not (nat_eq (length level.now) 0) = search (rules, tests) in e ∙ filled-is level.now)) ∙ c.if-not-all_pass.true)

pub returns-then-at-topic : goal.returns-then-at-topic
returns-then-at-topic c =
    other_last _ _ _ _ c.requires.0 c.requires.1 c.requires.2 c.requires.3 c.requires.4 (sym c.is_dollar_id.ensures ∙ c.if-not-is_dollar_id.false) (sym (c.all_pass.ensures filled (λ level r p. let e : r ≡ not (nat_eq (length level.now) 0) = search (rules, tests) in e ∙ filled-is level.now)) ∙ c.if-not-all_pass.false) (omega arith)

pub returns : goal.returns
returns c =
    other-more _ _ _ _ c.requires.0 c.requires.1 c.requires.2 c.requires.3 c.requires.4 (sym c.is_dollar_id.ensures ∙ c.if-not-is_dollar_id.false) (sym (c.all_pass.ensures filled (λ level r p. let e : r ≡ not (nat_eq (length level.now) 0) = search (rules, tests) in e ∙ filled-is level.now)) ∙ c.if-not-all_pass.false) (omega arith)

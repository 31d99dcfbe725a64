use Rattle.std.proofs.Common.{rules, tests, sym, ◌∙◌}
use Rattle.std.proofs.lemmas.Result.{err_from_is_err_and}
use Rattle.text.specs.Ids.{is_id}
use Rattle.topic.specs.Words.{log_levels}
use Rattle.topic.specs.Topics.{one_of}
use native.Mathlib.Omega.{arith}
use Rattle.topic.proofs.Answers.{as-word, unreserved, state-shows, description-shows, alert_no, alert_yes, log_no, log_yes}
use Rattle.topic.proofs.rest.of_word.Goals as goal

pub slice_bounds-same-count : goal.slice_bounds-same-count
slice_bounds-same-count c = c.requires.1.within.ordered

pub slice_bounds-same-start : goal.slice_bounds-same-start
slice_bounds-same-start c = omega (arith, c.requires.1.within.ordered, c.requires.1.within.inside)

pub slice_bounds-same-end : goal.slice_bounds-same-end
slice_bounds-same-end c = c.requires.1.within.inside

pub returns-then-same : goal.returns-then-same
returns-then-same c = as-word _ _ _ _ _ _ _ (sym c.same.ensures ∙ c.if-same.true) (state-shows _ _ _ c.requires.0 _ c.ended.ensures)

pub slice_bounds-same-count-2 : goal.slice_bounds-same-count-2
slice_bounds-same-count-2 c = c.requires.1.within.ordered

pub slice_bounds-same-start-2 : goal.slice_bounds-same-start-2
slice_bounds-same-start-2 c = omega (arith, c.requires.1.within.ordered, c.requires.1.within.inside)

pub slice_bounds-same-end-3 : goal.slice_bounds-same-end-3
slice_bounds-same-end-3 c = c.requires.1.within.inside

pub returns-then-same-2 : goal.returns-then-same-2
returns-then-same-2 c = as-word _ _ _ _ _ _ _ (sym c.same-2.ensures ∙ c.if-same-2.true) (description-shows _ _ _ c.requires.0 _ c.ended-then-same-2.ensures)

pub slice_bounds-same-count-3 : goal.slice_bounds-same-count-3
slice_bounds-same-count-3 c = c.requires.1.within.ordered

pub slice_bounds-same-start-3 : goal.slice_bounds-same-start-3
slice_bounds-same-start-3 c = omega (arith, c.requires.1.within.ordered, c.requires.1.within.inside)

pub slice_bounds-same-end-5 : goal.slice_bounds-same-end-5
slice_bounds-same-end-5 c = c.requires.1.within.inside

pub returns-in_err-name : goal.returns-in_err-name
returns-in_err-name c =
    let p = err_from_is_err_and c.from_residual.result c.from_residual.ensures.1 in
    rw (p.1, p.2) (as-word _ _ _ _ _ _ _ (sym c.same-3.ensures ∙ c.if-same-3.true) (alert_no _ _ _ c.requires.0 _ (c.in_err-name.ensures is_id (λ level r q. search (rules, tests)))))

pub returns-then-same-3 : goal.returns-then-same-3
returns-then-same-3 c =
    as-word _ _ _ _ _ _ _ (sym c.same-3.ensures ∙ c.if-same-3.true) (alert_yes _ _ _ c.requires.0 _ (c.in_ok-name.ensures is_id (λ level r q. search (rules, tests))))

pub slice_bounds-same-count-4 : goal.slice_bounds-same-count-4
slice_bounds-same-count-4 c = c.requires.1.within.ordered

pub slice_bounds-same-start-4 : goal.slice_bounds-same-start-4
slice_bounds-same-start-4 c = omega (arith, c.requires.1.within.ordered, c.requires.1.within.inside)

pub slice_bounds-same-end-7 : goal.slice_bounds-same-end-7
slice_bounds-same-end-7 c = c.requires.1.within.inside

pub returns-in_err-level : goal.returns-in_err-level
returns-in_err-level c =
    let p = err_from_is_err_and c.from_residual-in_err-level.result c.from_residual-in_err-level.ensures.1 in
    rw (p.1, p.2) (as-word _ _ _ _ _ _ _ (sym c.same-4.ensures ∙ c.if-same-4.true) (log_no _ _ _ c.requires.0 _ (c.in_err-level.ensures (one_of log_levels) (λ level r q. search (rules, tests)))))

pub returns-then-same-4 : goal.returns-then-same-4
returns-then-same-4 c =
    as-word _ _ _ _ _ _ _ (sym c.same-4.ensures ∙ c.if-same-4.true) (log_yes _ _ _ c.requires.0 _ (c.in_ok-level.ensures (one_of log_levels) (λ level r q. search (rules, tests))))

pub other-requires : goal.other-requires
other-requires c = (
  c.requires.0,
  c.requires.1,
  unreserved _ (sym c.same.ensures ∙ c.if-same.false) (sym c.same-2.ensures ∙ c.if-same-2.false) (sym c.same-3.ensures ∙ c.if-same-3.false) (sym c.same-4.ensures ∙ c.if-same-4.false),
  c.requires.2,
  c.requires.3,
)

pub returns : goal.returns
returns c = c.other.ensures

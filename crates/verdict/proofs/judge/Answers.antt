use Prim.Native.Nat.{ℕ}
use mathlib.Core.List.{List}
use Rattle.std.proofs.lemmas.Result.{err_from_is_err_and}
use Rattle.topic.specs.Topics.{read_topic}
use mathlib.Core.Path.{sym, ap, ◌∙◌}
use Rattle.verdict.proofs.Forms.{early, unread, refused_by, by_form, named}
use Rattle.verdict.proofs.judge.Goals as goal

pub returns-then-not-is_due : goal.returns-then-not-is_due
returns-then-not-is_due c = early _ _ _ _ (sym c.is_due.ensures ∙ c.if-not-is_due.true)

pub returns-in_err-t : goal.returns-in_err-t
returns-in_err-t c =
    let topic = c.args.message.topic.now in
    let p = err_from_is_err_and c.from_residual.result c.from_residual.ensures.1 in
    rw (p.1, p.2) (unread _ _ _ _ (sym c.is_due.ensures ∙ c.if-not-is_due.false) _ (c.read.ensures.says ∙ ap (λ (d : List ℕ). read_topic d topic) c.domain.ensures) _ c.in_err-t.was)

pub returns-in_err-refusal : goal.returns-in_err-refusal
returns-in_err-refusal c =
    let topic = c.args.message.topic.now in
    let p = err_from_is_err_and c.from_residual-in_err-refusal.result c.from_residual-in_err-refusal.ensures.1 in
    rw (p.1, p.2) (refused_by _ _ _ _ (sym c.is_due.ensures ∙ c.if-not-is_due.false) _ (c.read.ensures.says ∙ ap (λ (d : List ℕ). read_topic d topic) c.domain.ensures) _ c.in_ok-t.was _ (c.refusal.ensures topic) _ c.in_err-refusal.was)

pub returns : goal.returns
returns c =
    let topic = c.args.message.topic.now in
    by_form _ _ _ _ (sym c.is_due.ensures ∙ c.if-not-is_due.false) _ (c.read.ensures.says ∙ ap (λ (d : List ℕ). read_topic d topic) c.domain.ensures) _ c.in_ok-t.was _ (c.refusal.ensures topic) _ _ c.in_ok-refusal.was (c.by_form.ensures _ (named _ topic _ _ c.in_ok-t.was c.read.ensures.says))

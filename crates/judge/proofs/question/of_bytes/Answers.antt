use mathlib.Core.Path.{sym, ap, ◌∙◌}
use Rattle.judge.specs.Texts.{yes_or_no, told, events_text}
use Rattle.judge.proofs.Shapes.{bytes-id, bytes-utf8, bytes_trace, bytes-other}
use Rattle.judge.proofs.Saying.{says}
use Rattle.judge.proofs.question.of_bytes.Goals as goal

pub returns-then-same : goal.returns-then-same
returns-then-same c = says (ap yes_or_no c.is_id.ensures ∙ bytes-id _ _ (sym c.if-same.true ∙ c.same.ensures)) c.yes_or_no.ensures

pub returns-then-same-2 : goal.returns-then-same-2
returns-then-same-2 c =
    says (ap yes_or_no c.is_text.ensures ∙ bytes-utf8 _ _ (sym c.if-same.false ∙ c.same.ensures) (sym c.if-same-2.true ∙ c.same-2.ensures)) c.yes_or_no-then-same-2.ensures

pub returns-then-same-3 : goal.returns-then-same-3
returns-then-same-3 c =
    says (ap (told events_text) c.check.ensures ∙ bytes_trace _ _ (sym c.if-same.false ∙ c.same.ensures) (sym c.if-same-2.false ∙ c.same-2.ensures) (sym c.if-same-3.true ∙ c.same-3.ensures)) c.events.ensures

pub returns : goal.returns
returns c =
    says (bytes-other _ _ (sym c.if-same.false ∙ c.same.ensures) (sym c.if-same-2.false ∙ c.same-2.ensures) (sym c.if-same-3.false ∙ c.same-3.ensures)) c.unknown.ensures

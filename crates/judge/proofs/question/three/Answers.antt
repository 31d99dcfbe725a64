use Rattle.text.specs.Bytes.{eq_bytes}
use Rattle.text.specs.Ascii.{ascii}
use mathlib.Core.Path.{sym, ap, ◌∙◌}
use mathlib.Core.List.{List}
use Prim.Native.Nat.{ℕ}
use Rattle.judge.proofs.Shapes.{three-topic, three-description, three-format, three-event, three-other}
use Rattle.judge.proofs.Saying.{says}
use Rattle.judge.proofs.question.three.Goals as goal

pub topic_line-requires : goal.topic_line-requires
topic_line-requires c = c.requires

pub returns-then-same : goal.returns-then-same
returns-then-same c =
    says (three-topic _ _ _ (sym c.if-same.true ∙ c.same.ensures ∙ ap (λ (v : List ℕ). eq_bytes v (ascii "topic")) c.at-verb.ensures)) c.topic_line.ensures

pub description_line-requires : goal.description_line-requires
description_line-requires c = c.requires

pub returns-then-same-2 : goal.returns-then-same-2
returns-then-same-2 c =
    says (three-description _ _ _ (sym c.if-same.false ∙ c.same.ensures ∙ ap (λ (v : List ℕ). eq_bytes v (ascii "topic")) c.at-verb.ensures) (sym c.if-same-2.true ∙ c.same-2.ensures ∙ ap (λ (v : List ℕ). eq_bytes v (ascii "description")) c.at-verb.ensures)) c.description_line.ensures

pub format_line-requires : goal.format_line-requires
format_line-requires c = c.requires

pub returns-then-same-3 : goal.returns-then-same-3
returns-then-same-3 c =
    says (three-format _ _ _ (sym c.if-same.false ∙ c.same.ensures ∙ ap (λ (v : List ℕ). eq_bytes v (ascii "topic")) c.at-verb.ensures) (sym c.if-same-2.false ∙ c.same-2.ensures ∙ ap (λ (v : List ℕ). eq_bytes v (ascii "description")) c.at-verb.ensures) (sym c.if-same-3.true ∙ c.same-3.ensures ∙ ap (λ (v : List ℕ). eq_bytes v (ascii "format")) c.at-verb.ensures)) c.format_line.ensures

pub event_line-requires : goal.event_line-requires
event_line-requires c = c.requires

pub returns-then-same-4 : goal.returns-then-same-4
returns-then-same-4 c =
    says (three-event _ _ _ (sym c.if-same.false ∙ c.same.ensures ∙ ap (λ (v : List ℕ). eq_bytes v (ascii "topic")) c.at-verb.ensures) (sym c.if-same-2.false ∙ c.same-2.ensures ∙ ap (λ (v : List ℕ). eq_bytes v (ascii "description")) c.at-verb.ensures) (sym c.if-same-3.false ∙ c.same-3.ensures ∙ ap (λ (v : List ℕ). eq_bytes v (ascii "format")) c.at-verb.ensures) (sym c.if-same-4.true ∙ c.same-4.ensures ∙ ap (λ (v : List ℕ). eq_bytes v (ascii "event")) c.at-verb.ensures)) c.event_line.ensures

pub returns : goal.returns
returns c =
    says (three-other _ _ _ (sym c.if-same.false ∙ c.same.ensures ∙ ap (λ (v : List ℕ). eq_bytes v (ascii "topic")) c.at-verb.ensures) (sym c.if-same-2.false ∙ c.same-2.ensures ∙ ap (λ (v : List ℕ). eq_bytes v (ascii "description")) c.at-verb.ensures) (sym c.if-same-3.false ∙ c.same-3.ensures ∙ ap (λ (v : List ℕ). eq_bytes v (ascii "format")) c.at-verb.ensures) (sym c.if-same-4.false ∙ c.same-4.ensures ∙ ap (λ (v : List ℕ). eq_bytes v (ascii "event")) c.at-verb.ensures)) c.unknown.ensures

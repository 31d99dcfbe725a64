use mathlib.Core.Path.{refl, sym, ◌∙◌}
use Rattle.faults.proofs.Laws.{is-told}
use Rattle.properties.proofs.Rules.{format-other, format_any, format-plain, format_read}
use Rattle.properties.proofs.given_format.Goals as goal

pub returns-then-not-is_string : goal.returns-then-not-is_string
returns-then-not-is_string c = λ h n. format-other _ _ _ _ _ c.is_string.ensures c.if-not-is_string.true (is-told c.at.ensures)

pub returns-then-not-is_kept : goal.returns-then-not-is_kept
returns-then-not-is_kept c = λ h n. format_any _ _ _ _ _ c.is_string.ensures c.if-not-is_string.false c.is_kept.ensures c.if-not-is_kept.true refl refl

pub returns-then-unescaped : goal.returns-then-unescaped
returns-then-unescaped c =
    λ h n. format-plain _ _ _ _ _ c.is_string.ensures c.if-not-is_string.false c.is_kept.ensures c.if-not-is_kept.false (c.raw_bytes_by-raw.ensures h) (c.is_plain_by-unescaped.ensures h) c.if-unescaped.true c.judged_format.ensures

pub returns : goal.returns
returns c =
    λ h n. format_read _ _ _ _ _ c.is_string.ensures c.if-not-is_string.false c.is_kept.ensures c.if-not-is_kept.false (c.decoded_format.ensures (sym c.is_kept.ensures ∙ c.if-not-is_kept.false))

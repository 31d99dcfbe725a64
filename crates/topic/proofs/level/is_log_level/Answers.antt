use Rattle.std.proofs.Common.{◌≡◌, refl, sym, ◌∙◌}
use mathlib.Core.Bool.{◌||◌}
use Rattle.text.specs.Ascii.{ascii}
use Rattle.text.specs.Bytes.{eq_bytes}
use Rattle.topic.proofs.Levels.{or_then, or_else, log-level}
use Rattle.topic.proofs.level.is_log_level.Goals.{then-same, else-same, then-same-2, else-same-2, then-same-3, else-same-3}
use Rattle.topic.proofs.level.is_log_level.Goals as goal

pub returns-then-same-4 : goal.returns-then-same-4
returns-then-same-4 c =
    let s = c.args.s.now in
    let two : c.if-same.value ≡ (eq_bytes s (ascii "debug") || eq_bytes s (ascii "info")) = elim c.if-same.branch [ then-same w ↦ or_then _ (sym c.same.ensures ∙ w.if-same.true) (w.value-is ∙ c.same.ensures) | else-same w ↦ or_else (sym c.same.ensures ∙ w.if-same.false) (w.value-is ∙ w.same-else-same.ensures) ] in
    let three : c.if-same-2.value ≡ (c.if-same.value || eq_bytes s (ascii "warn")) = elim c.if-same-2.branch [ then-same-2 w ↦ or_then _ w.if-same-2.true w.value-is | else-same-2 w ↦ or_else w.if-same-2.false (w.value-is ∙ w.same-else-same-2.ensures) ] in
    let four : c.if-same-3.value ≡ (c.if-same-2.value || eq_bytes s (ascii "error")) = elim c.if-same-3.branch [ then-same-3 w ↦ or_then _ w.if-same-3.true w.value-is | else-same-3 w ↦ or_else w.if-same-3.false (w.value-is ∙ w.same-else-same-3.ensures) ] in
    log-level s _ _ _ _ two three four (or_then _ c.if-same-4.true refl)

pub returns-else-same-4 : goal.returns-else-same-4
returns-else-same-4 c =
    let s = c.args.s.now in
    let two : c.if-same.value ≡ (eq_bytes s (ascii "debug") || eq_bytes s (ascii "info")) = elim c.if-same.branch [ then-same w ↦ or_then _ (sym c.same.ensures ∙ w.if-same.true) (w.value-is ∙ c.same.ensures) | else-same w ↦ or_else (sym c.same.ensures ∙ w.if-same.false) (w.value-is ∙ w.same-else-same.ensures) ] in
    let three : c.if-same-2.value ≡ (c.if-same.value || eq_bytes s (ascii "warn")) = elim c.if-same-2.branch [ then-same-2 w ↦ or_then _ w.if-same-2.true w.value-is | else-same-2 w ↦ or_else w.if-same-2.false (w.value-is ∙ w.same-else-same-2.ensures) ] in
    let four : c.if-same-3.value ≡ (c.if-same-2.value || eq_bytes s (ascii "error")) = elim c.if-same-3.branch [ then-same-3 w ↦ or_then _ w.if-same-3.true w.value-is | else-same-3 w ↦ or_else w.if-same-3.false (w.value-is ∙ w.same-else-same-3.ensures) ] in
    log-level s _ _ _ _ two three four (or_else c.if-same-4.false c.same-else-same-4.ensures)

use mathlib.Core.Path.{sym, ◌∙◌}
use Rattle.text.proofs.Utf8.{utf8-answer}
use Rattle.payload.proofs.Judging.{json-cut, json-whole}
use Rattle.payload.proofs.is_json.Goals as goal

pub returns-else-is_utf8 : goal.returns-else-is_utf8
returns-else-is_utf8 c = c.if-is_utf8.false ∙ json-cut _ (sym (utf8-answer _ _ c.is_utf8.ensures) ∙ c.if-is_utf8.false)

pub returns-then-is_utf8 : goal.returns-then-is_utf8
returns-then-is_utf8 c = json-whole _ _ (sym (utf8-answer _ _ c.is_utf8.ensures) ∙ c.if-is_utf8.true) c.is_container.ensures

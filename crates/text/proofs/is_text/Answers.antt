use Rattle.text.proofs.Rule10.{text-utf8}
use Rattle.text.proofs.Utf8.{utf8-answer}
use Rattle.text.proofs.is_text.Goals as goal

pub returns-then-not-starts_bom : goal.returns-then-not-starts_bom
returns-then-not-starts_bom c = text-utf8 _ _ c.starts_bom.ensures _ c.if-not-starts_bom.true (utf8-answer _ _ c.is_utf8.ensures)

use Rattle.json_text.proofs.Bytes.{byte_in, byte_out}
use mathlib.Core.Path.{sym, ◌∙◌}
use Rattle.json_text.proofs.peek.Goals as goal

pub returns-then-at-s : goal.returns-then-at-s
returns-then-at-s c = c.from.ensures ∙ byte_in _ _ c.if-at-s.true

pub returns-else-at-s : goal.returns-else-at-s
returns-else-at-s c = sym (byte_out _ _ c.if-at-s.false)

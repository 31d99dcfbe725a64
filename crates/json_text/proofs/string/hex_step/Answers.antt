use mathlib.Core.Path.{sym, ◌∙◌}
use Rattle.json_text.proofs.Strings.{hex_go, hex_stuck}
use Rattle.json_text.proofs.string.hex_step.Goals as goal

pub returns-then-is_hex : goal.returns-then-is_hex
returns-then-is_hex c = hex_go _ _ (sym c.is_hex.ensures ∙ c.if-is_hex.true)

pub returns-else-is_hex : goal.returns-else-is_hex
returns-else-is_hex c = hex_stuck _ _ (sym c.is_hex.ensures ∙ c.if-is_hex.false)

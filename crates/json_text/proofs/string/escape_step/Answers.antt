use mathlib.Core.Path.{sym, ◌∙◌}
use Rattle.json_text.proofs.Strings.{escape-plain, escape_stuck}
use Rattle.json_text.specs.Strings.{escape_step}
use Rattle.json_text.proofs.string.escape_step.Goals as goal

pub returns-then-b-eq117 : goal.returns-then-b-eq117
unfolding escape_step
returns-then-b-eq117 c = rw c.if-b-eq117.true

pub returns-then-is_escape : goal.returns-then-is_escape
returns-then-is_escape c = escape-plain _ c.if-b-eq117.false (sym c.is_escape.ensures ∙ c.if-is_escape.true)

pub returns-else-is_escape : goal.returns-else-is_escape
returns-else-is_escape c = escape_stuck _ c.if-b-eq117.false (sym c.is_escape.ensures ∙ c.if-is_escape.false)

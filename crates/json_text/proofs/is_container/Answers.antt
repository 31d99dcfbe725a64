use mathlib.Core.Path.{◌∙◌}
use Rattle.json_text.proofs.Values.{container-none, container-some}
use Rattle.json_text.proofs.is_container.Goals as goal

pub returns-then-is_ok : goal.returns-then-is_ok
returns-then-is_ok c = c.is_opening.ensures ∙ container-some _ c.mark.ensures.is c.is_ok.ensures.value c.if-is_ok.true c.skip.ensures.is c.peek.ensures

pub returns-else-is_ok : goal.returns-else-is_ok
returns-else-is_ok c = container-none _ c.mark.ensures.is c.is_ok.ensures.value c.if-is_ok.false

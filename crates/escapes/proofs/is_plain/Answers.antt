use mathlib.Core.Path.{ap, ◌∙◌}
use mathlib.Core.Bool.{not}
use Rattle.json_text.proofs.Strings.{contains-backslash}
use Rattle.escapes.proofs.is_plain.Goals as goal

pub returns : goal.returns
returns c = ap not c.contains.ensures.value ∙ contains-backslash _

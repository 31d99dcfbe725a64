use mathlib.Core.Path.{ap, ◌∙◌}
use mathlib.Core.Bool.{not}
use Rattle.json_text.proofs.Strings.{contains-backslash}
use Rattle.json_text.proofs.string.is_plain_between.Goals as goal

pub returns : goal.returns
returns c = ap not c.contains.ensures.value ∙ contains-backslash _

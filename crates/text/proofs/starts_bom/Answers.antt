use mathlib.Core.Path.{◌∙◌}
use Rattle.text.proofs.Rule10.{bom_is}
use Rattle.text.proofs.starts_bom.Goals as goal

pub returns : goal.returns
returns c = c.starts_with.ensures.value ∙ bom_is c.args.s.now

use mathlib.Core.Path.{◌∙◌}
use Rattle.fields.proofs.Fields.{first_is}
use Rattle.fields.proofs.is_first.Goals as goal

pub returns : goal.returns
returns c = c.eq.ensures ∙ first_is c.args.k c.args.f

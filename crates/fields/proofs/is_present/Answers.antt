use mathlib.Core.Path.{◌∙◌}
use Rattle.fields.proofs.Fields.{present_is}
use Rattle.fields.proofs.is_present.Goals as goal

pub returns : goal.returns
returns c = c.is_some.ensures ∙ present_is c.args.f

use mathlib.Core.Path.{◌∙◌}
use Rattle.lookup.proofs.Opening.{domain_is}
use Rattle.lookup.proofs.domain.Goals as goal

pub returns : goal.returns
returns c = c.cut.ensures ∙ domain_is _ _ c.byte-n.ensures

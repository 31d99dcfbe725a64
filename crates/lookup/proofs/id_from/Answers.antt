use native.Mathlib.Omega.{arith}
use mathlib.Core.Path.{◌∙◌}
use Rattle.lookup.proofs.Ids.{id-cut}
use Rattle.lookup.proofs.id_from.Goals as goal

pub returns : goal.returns
returns c = c.cut.ensures ∙ id-cut _ _ _ (omega (arith, c.min-n.ensures, c.from.ensures, c.byte.ensures))

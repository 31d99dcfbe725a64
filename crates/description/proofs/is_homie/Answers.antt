use mathlib.Core.Path.{◌∙◌}
use Rattle.description.proofs.Device.{homie-other, homie_minor}
use Rattle.description.proofs.is_homie.Goals as goal

pub returns-then-same : goal.returns-then-same
returns-then-same c = homie_minor _ c.slice.ensures c.same.ensures c.if-same.true c.slice-then-same.ensures c.is_minor.ensures

pub returns-else-same : goal.returns-else-same
returns-else-same c = c.if-same.false ∙ homie-other _ c.slice.ensures c.same.ensures c.if-same.false

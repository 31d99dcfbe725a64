use mathlib.Core.Path.{◌∙◌}
use Rattle.faults.proofs.Laws.{or_told, told-as}
use Rattle.description.proofs.Device.{rootless-whole, rootless-half}
use Rattle.description.proofs.rootless_told.Goals as goal

pub returns : goal.returns
returns c =
    λ h own. c.or.ensures ∙ or_told _ (λ e. told-as c.at.ensures (rootless-whole own _ _ (c.half_told.ensures h) e)) (λ x e. rootless-half own _ _ (c.half_told.ensures h) e)

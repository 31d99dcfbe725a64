use mathlib.Core.Path.{◌∙◌}
use Rattle.faults.proofs.Laws.{or_told, told-as}
use Rattle.nodes.proofs.Nodes.{within-most, beyond-most, beyond-half}
use Rattle.nodes.proofs.past_most.Goals as goal

pub returns-then-n-lt-MOST : goal.returns-then-n-lt-MOST
returns-then-n-lt-MOST c = λ h. within-most _ _ _ c.if-n-lt-MOST.true

pub returns : goal.returns
returns c =
    λ h. c.or.ensures ∙ or_told _ (λ e. told-as c.at.ensures (beyond-most _ _ _ c.if-n-lt-MOST.false (c.half_told.ensures h) e)) (λ x e. beyond-half _ _ _ c.if-n-lt-MOST.false (c.half_told.ensures h) e)

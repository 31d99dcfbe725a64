use mathlib.Core.Path.{◌∙◌}
use Rattle.fields.proofs.Rules.{or_yes, or_no}
use Rattle.properties.proofs.takes_place.Goals as goal

pub returns-then-placed : goal.returns-then-placed
returns-then-placed c = λ h b w. c.if-placed.true ∙ or_yes _ _ c.if-placed.true

pub returns-else-placed : goal.returns-else-placed
returns-else-placed c = λ h b w. or_no _ _ _ c.if-placed.false (c.is_before.ensures h b w)

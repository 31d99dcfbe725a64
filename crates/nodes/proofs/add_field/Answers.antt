use mathlib.Core.Path.{refl}
use Rattle.nodes.proofs.Nodes.{of_properties, field-none, field-some}
use Rattle.nodes.proofs.add_field.Goals as goal

pub returns-in-None : goal.returns-in-None
returns-in-None c = λ h. field-none _ _ c.in-None.is refl

pub returns-in-Some : goal.returns-in-Some
unfolding of_properties
returns-in-Some c = λ h. field-some _ _ _ c.in-Some.is (c.add_properties.ensures h)

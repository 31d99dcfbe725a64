use mathlib.Core.Path.{refl}
use Rattle.nodes.proofs.Nodes.{member-judged}
use Rattle.nodes.proofs.property_member.Goals as goal

pub returns : goal.returns
returns c =
    λ h w e. member-judged _ _ _ _ _ e _ (c.comes_first.ensures h w) (c.property_value-p.ensures h) (c.id_name_told.ensures h) (c.past_most.ensures h) c.earlier-named.ensures c.earlier.ensures refl

use mathlib.Core.Path.{refl}
use Rattle.nodes.proofs.Nodes.{of_nodes, lists-none, lists-some}
use Rattle.nodes.proofs.nodes_in.Goals as goal

pub returns-in-None : goal.returns-in-None
returns-in-None c = λ h. lists-none _ c.in-None.is refl c.empty.ensures.1 (c.empty.ensures.0 _)

pub returns-in-Some : goal.returns-in-Some
unfolding of_nodes
returns-in-Some c = λ h. lists-some _ _ c.in-Some.is refl c.empty.ensures.1 (c.empty.ensures.0 _) (c.add_nodes.ensures h)

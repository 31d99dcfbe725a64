use mathlib.Core.Path.{ap, ◌∙◌}
use Rattle.faults.specs.Faults.{earlier}
use Rattle.faults.proofs.Laws.{is-told}
use Rattle.nodes.proofs.Nodes.{member-first, member-again}
use Rattle.nodes.proofs.add_member.Goals as goal

pub returns-then-comes_first : goal.returns-then-comes_first
returns-then-comes_first c =
    λ h w e. member-first _ _ _ _ e (c.comes_first.ensures h w) (c.id_name_told.ensures h) c.earlier-named.ensures c.if-comes_first.true (c.add_node.ensures h)

pub returns : goal.returns
returns c =
    λ h w e. member-again _ _ _ _ e (c.comes_first.ensures h w) (c.id_name_told.ensures h) c.earlier-named.ensures c.if-comes_first.false (c.earlier.ensures ∙ ap (earlier _) (is-told c.at.ensures))

use mathlib.Core.Path.{sym, ap, ◌∙◌}
use Rattle.faults.specs.Faults.{earlier}
use Rattle.faults.proofs.Laws.{is-told}
use Rattle.nodes.proofs.Nodes.{node_kind, node-fields}
use Rattle.nodes.proofs.add_node.Goals as goal

pub returns-then-not-is_object : goal.returns-then-not-is_object
returns-then-not-is_object c = λ h. node_kind _ _ _ (sym c.is_object.ensures ∙ c.if-not-is_object.true) (c.earlier.ensures ∙ ap (earlier _) (is-told c.at.ensures))

pub returns : goal.returns
returns c =
    λ h. node-fields _ _ _ (sym c.is_object.ensures ∙ c.if-not-is_object.false) (c.known_fields-m.ensures h) (c.fields_told.ensures h) c.earlier-own.ensures c.earlier-2.ensures c.get-f.ensures (c.add_field.ensures h)

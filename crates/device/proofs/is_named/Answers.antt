use mathlib.Core.Path.{◌∙◌}
use Rattle.rules.proofs.Choices.{told}
use Rattle.device.proofs.First.{other-id, same_id}
use Rattle.device.proofs.is_named.Goals as goal

pub returns-else-id_is : goal.returns-else-id_is
returns-else-id_is c =
    let a = c.args in
    c.if-id_is.false ∙ other-id a.room.now a.node.now a.id.now _ _ c.record_at-a.ensures.0 (told c.id_is.ensures c.if-id_is.false)

pub returns-then-id_is : goal.returns-then-id_is
returns-then-id_is c =
    let a = c.args in
    same_id a.room.now a.node.now a.id.now _ _ c.record_at-a.ensures.0 (told c.id_is.ensures c.if-id_is.true) c.id_is-then-id_is.ensures

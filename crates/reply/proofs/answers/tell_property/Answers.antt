use mathlib.Core.Path.{◌∙◌}
use Rattle.reply.proofs.Out.{reply_as}
use Rattle.reply.proofs.Shown.{property-shown}
use Rattle.reply.proofs.answers.tell_property.Goals as goal

pub returns-in-Ok : goal.returns-in-Ok
returns-in-Ok c = reply_as _ _ _ _ _ (property-shown _ _ _ _ _ c.in-Ok.is (c.from.ensures ∙ c.datatype_code.ensures) c.from-in-Ok.ensures c.from-in-Ok-2.ensures) c.tell.ensures

use Rattle.reply.proofs.Out.{reply_as}
use Rattle.reply.proofs.Declared.{entry-shown}
use Rattle.reply.proofs.descriptions.tell_entry.Goals as goal

pub returns : goal.returns
returns c =
    reply_as _ _ _ _ _ (entry-shown _ _ _ _ _ _ c.datatype_code.ensures c.is_given-given.ensures c.kept_number.ensures c.format_place.ensures) c.tell.ensures

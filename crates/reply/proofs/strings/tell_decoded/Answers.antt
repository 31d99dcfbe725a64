use Rattle.reply.proofs.Out.{numbered_as}
use Rattle.reply.proofs.Said.{said-half, said-whole}
use Rattle.reply.proofs.strings.tell_decoded.Goals as goal

pub returns-in-Err : goal.returns-in-Err
returns-in-Err c = said-half _ _ c.decode_at.ensures c.in-Err.is c.requires (numbered_as _ c.number.ensures c.refusal_code.ensures)

pub returns-in-Ok : goal.returns-in-Ok
returns-in-Ok c = said-whole _ _ c.decode_at.ensures c.in-Ok.is c.tell_value.ensures

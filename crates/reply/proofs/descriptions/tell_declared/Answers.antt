use Rattle.reply.proofs.Declared.{declared-refused, declared-shown}
use Rattle.reply.proofs.Out.{refusal, reply_as}
use Rattle.reply.proofs.descriptions.tell_declared.Goals as goal

pub returns-in-Some : goal.returns-in-Some
returns-in-Some c = refusal _ _ _ (declared-refused _ _ _ _ c.in-Some.is c.number.ensures c.refusal_code.ensures)

pub returns : goal.returns
returns c = reply_as _ _ _ _ _ (declared-shown _ _ _ c.in_default.is) c.tell_item.ensures

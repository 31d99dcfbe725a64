use Rattle.reply.proofs.Declared.{description-refused, description-shown}
use Rattle.reply.proofs.Out.{refusal, reply_as}
use Rattle.reply.proofs.descriptions.tell_description.Goals as goal

pub returns-in-Some : goal.returns-in-Some
returns-in-Some c = refusal _ _ _ (description-refused _ _ c.in-Some.is c.number.ensures c.refusal_code.ensures)

pub returns : goal.returns
returns c =
    reply_as _ _ _ _ _ (description-shown _ _ _ _ _ _ c.in_default.is c.twos_complement-version.ensures c.presence_of.ensures c.place_of.ensures c.presence_of-2.ensures c.place_of-2.ensures) c.tell.ensures

use Rattle.reply.proofs.Out.{refusal, reply_as}
use Rattle.viewer.proofs.Read.{step-shown, step-refused}
use Rattle.viewer.proofs.files.tell_step.Goals as goal

pub returns-in-Err : goal.returns-in-Err
returns-in-Err c = rw (c.from.ensures, c.number.ensures) (refusal _ _ _ (step-refused _ _ _ c.in-Err.is))

pub returns-in-Ok : goal.returns-in-Ok
returns-in-Ok c = reply_as _ _ _ _ _ (step-shown _ _ _ _ c.in-Ok.is c.event_values-vs.ensures) c.tell.ensures

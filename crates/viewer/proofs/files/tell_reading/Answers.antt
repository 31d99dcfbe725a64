use mathlib.Core.Path.{ap}
use Rattle.reply.specs.Files.{show_reading}
use Rattle.reply.proofs.Out.{refusal, reply_as}
use Rattle.viewer.proofs.Read.{six, event-shown}
use Rattle.viewer.proofs.files.tell_reading.Goals as goal

pub slice_bounds-tell-end : goal.slice_bounds-tell-end
slice_bounds-tell-end c = six _ _ _ c.event_values-vs.ensures

pub returns-in-Err : goal.returns-in-Err
unfolding show_reading
returns-in-Err c = rw (c.from.ensures, c.number.ensures) (refusal _ _ _ (ap show_reading c.in-Err.is))

pub returns-in-Ok : goal.returns-in-Ok
returns-in-Ok c = reply_as _ _ _ _ _ (event-shown _ _ _ _ c.in-Ok.is c.event_values-vs.ensures) c.tell.ensures

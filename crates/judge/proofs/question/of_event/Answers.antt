use Rattle.judge.proofs.Asking.{event-refused, event-found}
use Rattle.judge.proofs.Saying.{says}
use Rattle.judge.proofs.question.of_event.Goals as goal

pub returns-in-Err : goal.returns-in-Err
returns-in-Err c = says (event-refused c.read.ensures _ c.in-Err.is) (rw c.number.ensures at c.refused.ensures)

pub returns-in-Ok : goal.returns-in-Ok
returns-in-Ok c = says (event-found c.read.ensures _ c.in-Ok.is) c.event.ensures

use Rattle.judge.proofs.Asking.{topic-form, topic-refused}
use Rattle.judge.proofs.Saying.{says}
use Rattle.judge.proofs.question.of_topic.Goals as goal

pub returns-in-Ok : goal.returns-in-Ok
returns-in-Ok c = says (topic-form _ _ c.read.ensures _ c.in-Ok.is) c.form.ensures

pub returns-in-Err : goal.returns-in-Err
returns-in-Err c = says (topic-refused _ _ c.read.ensures _ _ c.in-Err.is c.number.ensures) c.refused.ensures

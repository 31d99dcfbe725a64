use Rattle.topic.specs.Flags.{flag_in}
use Rattle.topic.proofs.flag_of.Goals as goal

pub returns-in-Ok : goal.returns-in-Ok
unfolding flag_in
returns-in-Ok c = λ topic. rw c.in-Ok.is (c.flag.ensures topic)

pub returns-in-Err : goal.returns-in-Err
unfolding flag_in
returns-in-Err c = λ topic. rw c.in-Err.is

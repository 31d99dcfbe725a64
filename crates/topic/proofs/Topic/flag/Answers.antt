use Rattle.topic.specs.Flags.{flag_of}
use Rattle.topic.specs.Meaning.{form_at}
use Rattle.topic.proofs.Topic.flag.Goals as goal

pub returns-in-State : goal.returns-in-State
unfolding flag_of form_at
returns-in-State c = λ topic. rw c.in-State.is

pub returns-in-Description : goal.returns-in-Description
unfolding flag_of form_at
returns-in-Description c = λ topic. rw c.in-Description.is

pub returns-in-Value : goal.returns-in-Value
unfolding flag_of form_at
returns-in-Value c = λ topic. rw c.in-Value.is

pub returns-in-Set : goal.returns-in-Set
unfolding flag_of form_at
returns-in-Set c = λ topic. rw c.in-Set.is

pub returns-in-Target : goal.returns-in-Target
unfolding flag_of form_at
returns-in-Target c = λ topic. rw c.in-Target.is

pub returns-in-Alert : goal.returns-in-Alert
unfolding flag_of form_at
returns-in-Alert c = λ topic. rw c.in-Alert.is

pub returns-in-Log : goal.returns-in-Log
unfolding flag_of form_at
returns-in-Log c = λ topic. rw c.in-Log.is

pub returns-in-Broadcast : goal.returns-in-Broadcast
unfolding flag_of form_at
returns-in-Broadcast c = λ topic. rw c.in-Broadcast.is

pub returns-in-Other : goal.returns-in-Other
unfolding flag_of form_at
returns-in-Other c = λ topic. rw c.in-Other.is

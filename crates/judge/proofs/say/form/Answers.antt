use Rattle.judge.proofs.Saying.{says, is_state, is-description, is-value, is-set, is-target, is-alert, is-log, is-broadcast, is-other}
use Rattle.lines.proofs.Adding.{put-adds}
use Rattle.judge.proofs.say.form.Goals as goal

pub returns-in-State : goal.returns-in-State
returns-in-State c = says (is_state c.args.topic.now _ c.in-State.is) c.one.ensures

pub returns-in-Description : goal.returns-in-Description
returns-in-Description c = says (is-description c.args.topic.now _ c.in-Description.is) c.one-in-Description.ensures

pub returns-in-Value : goal.returns-in-Value
returns-in-Value c = says (is-value c.args.topic.now _ c.in-Value.is) c.property.ensures

pub returns-in-Set : goal.returns-in-Set
returns-in-Set c = says (is-set c.args.topic.now _ c.in-Set.is) c.property-in-Set.ensures

pub returns-in-Target : goal.returns-in-Target
returns-in-Target c = says (is-target c.args.topic.now _ c.in-Target.is) c.property-in-Target.ensures

pub returns-in-Alert : goal.returns-in-Alert
returns-in-Alert c = says (is-alert c.args.topic.now _ c.in-Alert.is) c.alert.ensures

pub returns-in-Log : goal.returns-in-Log
returns-in-Log c = says (is-log c.args.topic.now _ c.in-Log.is) c.one-in-Log.ensures

pub returns-in-Broadcast : goal.returns-in-Broadcast
returns-in-Broadcast c = says (is-broadcast c.args.topic.now _ c.in-Broadcast.is) (put-adds _ _ _ c.put.ensures)

pub returns-in-Other : goal.returns-in-Other
returns-in-Other c = says (is-other c.args.topic.now _ c.in-Other.is) c.one-in-Other.ensures

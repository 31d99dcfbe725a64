use Rattle.verdict.proofs.Forms.{on-state, on-description, on_value, on-set, on-target, on-alert, on-log, on-other, on-broadcast}
use Rattle.verdict.proofs.by_form.Goals as goal

pub returns-in-State : goal.returns-in-State
returns-in-State c = on-state _ _ _ _ _ _ _ c.in-State.is c.state.ensures

pub returns-in-Description : goal.returns-in-Description
returns-in-Description c = on-description _ _ _ _ _ _ _ c.in-Description.is c.description.ensures

pub returns-in-Value : goal.returns-in-Value
returns-in-Value c = on_value _ _ _ _ _ _ _ _ _ c.in-Value.is c.lane.ensures

pub returns-in-Set : goal.returns-in-Set
returns-in-Set c = on-set _ _ _ _ _ _ _ _ _ c.in-Set.is c.lane-in-Set.ensures

pub returns-in-Target : goal.returns-in-Target
returns-in-Target c = on-target _ _ _ _ _ _ _ _ _ c.in-Target.is c.lane-in-Target.ensures

pub returns-in-Alert : goal.returns-in-Alert
returns-in-Alert c = on-alert _ _ _ _ _ _ _ _ c.in-Alert.is c.known.ensures

pub returns-in-Log : goal.returns-in-Log
returns-in-Log c = on-log _ _ _ _ _ _ _ _ c.in-Log.is c.known-in-Log.ensures

pub returns-in-Broadcast : goal.returns-in-Broadcast
returns-in-Broadcast c = on-broadcast _ _ _ _ _ _ c.in-Broadcast.is

pub returns-in-Other : goal.returns-in-Other
returns-in-Other c = on-other _ _ _ _ _ _ _ _ _ c.in-Other.is c.known-in-Other.ensures

-- Paper 01, "The table": what a message makes of a table, or its refusal. "Message order: 6, 7, 8, 9, 10, 11 (forms with a fixed flag), then .." by form.
use Rattle.std.specs.Prelude.{ℕ, List, [], ◌∷◌, Bool, true, false, not, ◌&&◌, ◌||◌, length, leb, ltb, Option, None, Some}
use Rattle.answer.specs.Answer.{Answer, refused, gives, require, and_then, only}
use Rattle.text.specs.Utf8.{is_text}
use Rattle.topic.specs.Form as form
use Rattle.topic.specs.Topics.{read_topic}
use Rattle.topic.specs.Flags.{flag_of, admits}
use Rattle.payload.specs.Payloads.{is_payload}
use Rattle.description.specs.Description.{describe}
use Rattle.rules.specs.declared.DeviceState.{DeviceState}
use Rattle.rules.specs.declared.LaneKind.{LaneKind}
use Rattle.rules.specs.declared.LaneKind.TheVariants.{Value, Target, Asked}
use Rattle.rules.specs.States.{state_worded}
use Rattle.rules.specs.Table.{Held, Property, Device, Description, Table, with_lane, properties_of}
use Rattle.rules.specs.Find.{find, change, remove, insert, find_property, change_property, in_device}
use Rattle.rules.specs.Handover.{republished}

-- a finished message: its time, its topic, the flag "retained as published", its payload
pub record Message : Type 0 where
  pub time : ℕ
  pub topic : List ℕ
  pub retained : Bool
  pub payload : List ℕ

unfoldable pub is_empty : List ℕ → Bool
is_empty [] = true
is_empty (b ∷ s) = false

-- ---- state. "Message order: .. state: empty 12; else 14, 13."

-- a device that has this state since this time
abbrev pub with_state : DeviceState → ℕ → Device → Device
with_state s time v = record { id = v.id; state = s; time = time; description = v.description }

abbrev pub new_device : List ℕ → DeviceState → ℕ → Device
new_device id s time = record { id = id; state = s; time = time; description = None }

-- "a state word makes or updates the device". 13: "new device, and D devices are there"
unfoldable pub make_or_update : ℕ → List ℕ → DeviceState → ℕ → List Device → Answer Device → Answer (List Device)
make_or_update d id s time ds (gives v) = gives (change id (with_state s time) ds)
make_or_update d id s time ds (refused n) = require (ltb (length ds) d) 13 (gives (insert (new_device id s time) ds))

-- 14: "state word .. not valid"
unfoldable pub by_word : ℕ → List ℕ → ℕ → List Device → Option DeviceState → Answer (List Device)
by_word d id time ds None = refused (only 14)
by_word d id time ds (Some s) = make_or_update d id s time ds (find id ds)

-- "empty payload removes it and frees its room for any other"
unfoldable pub obey_state : ℕ → List ℕ → Message → List Device → Answer (List Device)
obey_state d id x ds = elim (is_empty x.payload) [
  | true ↦ and_then (find id ds) (λ v. gives (remove id ds))
  | false ↦ by_word d id x.time ds (state_worded x.payload)
]

-- ---- description: 12, then what is told of its faults (paper 02, K1: "15 gives way to 21 .. 25")

abbrev pub with_description : Option Description → Device → Device
with_description y v = record { id = v.id; state = v.state; time = v.time; description = y }

-- a description that is not empty "replaces what the device has", but for the lanes that are handed on (paper 02, K2)
unfoldable pub redescribed : (id : List ℕ) → (old : Option Description) → (payload : List ℕ) → Answer (Option Description)
redescribed id old payload = and_then (describe id payload) (λ y. gives (Some (republished (properties_of old) y)))

-- "Empty payload removes the description and the lanes."; paper 02, K2: "An empty description still clears everything."
unfoldable pub described_by : (id : List ℕ) → (old : Option Description) → (payload : List ℕ) → Answer (Option Description)
described_by id old payload = elim (is_empty payload) [ true ↦ gives None | false ↦ redescribed id old payload ]

unfoldable pub obey_description : List ℕ → Message → List Device → Answer (List Device)
obey_description id x ds =
    and_then (find id ds) (λ v.
    and_then (described_by id v.description x.payload) (λ y.
    gives (change id (with_description y) ds)))

-- ---- value, set, target

-- what a lane holds after a message: "fill that lane; empty payload empties it"
unfoldable pub held_by : Message → Option Held
held_by x = elim (is_empty x.payload) [ true ↦ None | false ↦ Some (record { time = x.time; payload = x.payload }) ]

unfoldable pub fill : LaneKind → List ℕ → List ℕ → List ℕ → Message → List Device → List Device
fill lane id node property x ds = change id (in_device (change_property node property (with_lane lane (held_by x)))) ds

-- 14: "state word or property payload not valid"
unfoldable pub is_valid : Property → List ℕ → Bool
is_valid p s = is_payload p.declared.datatype p.declared.format s

-- "value": the flag "as the property says". "empty payload empties it, but on the value of a non-retained property it gives 14". "Value: 12, 16, 11, 14."
unfoldable pub same_flag : Bool → Bool → Bool
same_flag true b = b
same_flag false b = not b

unfoldable pub value_rules : Property → Message → Answer (List Device) → Answer (List Device)
value_rules p x a =
    require (same_flag p.declared.retained x.retained) 11
    (require ((is_empty x.payload && p.declared.retained) || is_valid p x.payload) 14 a)

-- "Set: 12, 16, 17, 14."
unfoldable pub set_rules : Property → Message → Answer (List Device) → Answer (List Device)
set_rules p x a =
    require p.declared.settable 17
    (require (is_valid p x.payload) 14 a)

-- "Target: 12, 16, 14."
unfoldable pub target_rules : Property → Message → Answer (List Device) → Answer (List Device)
target_rules p x a = require (is_empty x.payload || is_valid p x.payload) 14 a

-- the rules of a lane's messages
unfoldable pub lane_rules : LaneKind → Property → Message → Answer (List Device) → Answer (List Device)
lane_rules Value = value_rules
lane_rules Asked = set_rules
lane_rules Target = target_rules

unfoldable pub obey_lane : LaneKind → List ℕ → List ℕ → List ℕ → Message → List Device → Answer (List Device)
obey_lane lane id node property x ds =
    and_then (find id ds) (λ v.
    and_then (find_property node property (properties_of v.description)) (λ p.
    lane_rules lane p x (gives (fill lane id node property x ds))))

-- ---- all forms. "alert, log, broadcast, other: taken, lanes and devices unchanged." "Alert, log, other: 12."

unfoldable pub obey : ℕ → Message → List Device → form.Form → Answer (List Device)
obey d x ds (form.state id) = obey_state d id x ds
obey d x ds (form.description id) = obey_description id x ds
obey d x ds (form.value id n p) = obey_lane Value id n p x ds
-- "set: fills asked and nothing else. The device's own value message alone changes the value lane."
obey d x ds (form.set id n p) = obey_lane Asked id n p x ds
obey d x ds (form.target id n p) = obey_lane Target id n p x ds
obey d x ds (form.alert id a) = and_then (find id ds) (λ v. gives ds)
obey d x ds (form.log id l) = and_then (find id ds) (λ v. gives ds)
obey d x ds (form.broadcast ids) = gives ds
obey d x ds (form.other id w ls) = and_then (find id ds) (λ v. gives ds)

-- 7: "time before the last one"
unfoldable pub is_due : Option ℕ → ℕ → Bool
is_due None time = true
is_due (Some last) time = leb last time

-- the form of a message that passes 7 to 11 (forms with a fixed flag)
unfoldable pub admitted_form : List ℕ → Table → Message → Answer form.Form
admitted_form domain t x =
    require (is_due t.last x.time) 7
    (and_then (read_topic domain x.topic) (λ f.
    require (is_text x.payload) 10
    (require (admits (flag_of f) x.retained) 11
    (gives f))))

-- "Every message taken becomes the last time"
unfoldable pub message : (domain : List ℕ) → (d : ℕ) → Table → Message → Answer Table
message domain d t x =
    and_then (admitted_form domain t x) (λ f.
    and_then (obey d x t.devices f) (λ ds.
    gives (record { devices = ds; last = Some x.time })))

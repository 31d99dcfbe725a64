-- What the theorems say of tables: the order of the devices, what else they have but one lane, and whom a message is about.
use Rattle.std.specs.Prelude.{ℕ, ◌≤◌, ◌≡◌, List, [], ◌∷◌, map, Bool, true, false, ◌&&◌, ◌||◌, length, leb, eqb, Option, None, Some}
use Rattle.answer.specs.Answer.{Refusal, Answer, refused, gives}
use Rattle.text.specs.Bytes.{less_bytes}
use Rattle.text.specs.Ids.{is_id}
use Rattle.topic.specs.Form as form
use Rattle.description.specs.Description.{Described}
use Rattle.description.specs.Declares.{Declares}
use Rattle.rules.specs.declared.DeviceState.{DeviceState}
use Rattle.rules.specs.declared.LaneKind.{LaneKind}
use Rattle.rules.specs.Table.{Held, Property, Description, Device, Table, with_lane}
use Rattle.rules.specs.Find.{in_device}
use Rattle.rules.specs.Handover.{kept_if}
use Rattle.rules.specs.Messages.{Message, with_state, new_device, is_valid, admitted_form, message}

-- a message of that form, taken by the table t, which is t' then
pub record Takes (domain : List ℕ) (d : ℕ) (t : Table) (x : Message) (f : form.Form) (t' : Table) : Type 0 where
  pub formed : admitted_form domain t x ≡ gives f
  pub taken : message domain d t x ≡ gives t'

-- "by ascending ID bytes": each ID stands before the next one, so none stands twice
unfoldable pub ascends_from : List ℕ → List Device → Bool
ascends_from id [] = true
ascends_from id (v ∷ vs) = less_bytes id v.id && ascends_from v.id vs

unfoldable pub ascends : List Device → Bool
ascends [] = true
ascends (v ∷ vs) = ascends_from v.id vs

-- every device has an ID
unfoldable pub have_ids : List Device → Bool
have_ids [] = true
have_ids (v ∷ vs) = is_id v.id && have_ids vs

-- what holds of the devices of every table, opened for at most d of them
pub record Invariant (d : ℕ) (ds : List Device) : Type 0 where
  pub ascending : ascends ds ≡ true
  pub few : length ds ≤ d
  pub named : have_ids ds ≡ true

-- a table that has a last time, not before u
pub record NotBefore (u : ℕ) (t : Table) : Type 0 where
  pub time : ℕ
  pub last : t.last ≡ Some time
  pub due : u ≤ time

-- a device as a state word "makes or updates" it
unfoldable pub updated : List ℕ → DeviceState → ℕ → Answer Device → Device
updated id s time (gives v) = with_state s time v
updated id s time (refused n) = new_device id s time

-- all that devices have but the lanes of one kind
unfoldable pub without : LaneKind → List Device → List Device
without k ds = map (in_device (map (with_lane k None))) ds

-- the device that a message's topic names, if one
unfoldable pub device_in : form.Form → Option (List ℕ)
device_in (form.state id) = Some id
device_in (form.description id) = Some id
device_in (form.value id n p) = Some id
device_in (form.set id n p) = Some id
device_in (form.target id n p) = Some id
device_in (form.alert id a) = Some id
device_in (form.log id l) = Some id
device_in (form.broadcast ids) = None
device_in (form.other id w ls) = Some id

-- "alert, log, broadcast, other"
unfoldable pub is_report : form.Form → Bool
is_report (form.state id) = false
is_report (form.description id) = false
is_report (form.value id n p) = false
is_report (form.set id n p) = false
is_report (form.target id n p) = false
is_report (form.alert id a) = true
is_report (form.log id l) = true
is_report (form.broadcast ids) = true
is_report (form.other id w ls) = true

-- what a device's description declares, its lanes aside
unfoldable pub declared_in : Description → Described
declared_in y = record { root = y.root; parent = y.parent; version = y.version; properties = map (λ (p : Property). p.declared) y.properties }

-- each lane is empty or holds a payload that is valid for its property
unfoldable pub holds_valid : Property → Option Held → Bool
holds_valid p None = true
holds_valid p (Some h) = is_valid p h.payload

unfoldable pub lanes_valid : Property → Bool
lanes_valid p = holds_valid p p.value && (holds_valid p p.target && holds_valid p p.asked)

unfoldable pub all_valid : List Property → Bool
all_valid [] = true
all_valid (p ∷ ps) = lanes_valid p && all_valid ps

-- paper 02, K2: a property whose description is published again as it was. The target stays, a value where it is retained, and nothing is asked
unfoldable pub settled : Property → Property
settled p = record { declared = p.declared; value = kept_if p.declared.retained p.value; target = p.target; asked = None }

-- what holds of the description that a device with that ID has
pub record Proper (id : List ℕ) (y : Description) : Type 0 where
  pub declares : Declares id (declared_in y)
  pub lanes : all_valid y.properties ≡ true

-- ---- what is refused with which numbers

-- "Message order: 6, 7, 8, 9, 10, 11 .." by form: a number from 7 to 17 alone; or what is told of a description (paper 02, K1), with its place
abbrev pub tells_message : ℕ → List ℕ → Bool
tells_message n [] = leb 7 n && leb n 17
tells_message n (p ∷ []) = (leb 21 n && leb n 25) && leb p 8192
tells_message n (p ∷ (q ∷ ps)) = false

abbrev pub of_message : Refusal → Bool
of_message r = tells_message r.number r.tells

-- "Questions: 6, 12, 16, 3 as they apply.": a number alone
abbrev pub tells_question : ℕ → List ℕ → Bool
tells_question n [] = eqb n 3 || (eqb n 12 || eqb n 16)
tells_question n (p ∷ ps) = false

abbrev pub of_question : Refusal → Bool
of_question r = tells_question r.number r.tells

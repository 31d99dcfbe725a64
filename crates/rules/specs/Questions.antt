-- Paper 01, "The table": the questions, and what they are answered from a table.
use Rattle.std.specs.Prelude.{ℕ, zero, suc, ◌+◌, List, [], ◌∷◌, Bool, true, false, cond, length, ℤ, Option, None, Some}
use Rattle.answer.specs.Answer.{Answer, refused, gives, and_then, only}
use Rattle.properties.specs.Property as declaration
use Rattle.rules.specs.declared.DeviceState.{DeviceState}
use Rattle.rules.specs.declared.DeviceState.TheVariants.{Init, Ready, Disconnected, Sleeping, Lost}
use Rattle.rules.specs.declared.LaneKind.{LaneKind}
use Rattle.rules.specs.Table.{Held, Property, Device, Table, lane_of, root_of, parent_of, version_of, properties_of}
use Rattle.rules.specs.Find.{find, find_property}

pub data Question : Type 0 where
  -- "count of devices; the i-th by ascending ID bytes"
  ask_count : Question
  ask_nth : ℕ → Question
  -- "of a device named by ID, its states and time, its root, parent (as sent) and version (its number), or none"
  ask_states : (device : List ℕ) → Question
  ask_root : (device : List ℕ) → Question
  ask_parent : (device : List ℕ) → Question
  ask_version : (device : List ℕ) → Question
  -- "how many of its properties hold a value, and the i-th property by node ID, then property ID, with its datatype, kept format and two flags"
  ask_filled : (device : List ℕ) → Question
  ask_property : (device : List ℕ) → ℕ → Question
  -- "a lane, named by the three IDs and its kind"
  ask_lane : (device node property : List ℕ) → LaneKind → Question
  -- "last time (or none)"
  ask_last : Question

-- what calls answer that are not refused: a message or a step back is taken; a question has its value
pub data Value : Type 0 where
  taken : Value
  a_number : ℕ → Value
  an_id : List ℕ → Value
  two_states : (own effective : DeviceState) (time : ℕ) → Value
  a_text : Option (List ℕ) → Value
  a_version : Option ℤ → Value
  a_property : declaration.Property → Value
  a_lane : Option Held → Value
  a_time : Option ℕ → Value

-- 3: "event, device or property number not below the count"
unfoldable pub at : {A : Type 0} → ℕ → List A → Answer A
at i [] = refused (only 3)
at zero (x ∷ l) = gives x
at (suc i) (x ∷ l) = at i l

-- "Effective state: `lost` if the device has a root that is in the table with own state `lost`; else its own."
unfoldable pub is_lost : DeviceState → Bool
is_lost Init = false
is_lost Ready = false
is_lost Disconnected = false
is_lost Sleeping = false
is_lost Lost = true

unfoldable pub found_lost : Answer Device → Bool
found_lost (refused n) = false
found_lost (gives v) = is_lost v.state

unfoldable pub root_lost : List Device → Option (List ℕ) → Bool
root_lost ds None = false
root_lost ds (Some root) = found_lost (find root ds)

unfoldable pub effective : List Device → Device → DeviceState
effective ds v = cond (root_lost ds (root_of v.description)) Lost v.state

-- "how many of its properties hold a value"
unfoldable pub is_filled : Option Held → Bool
is_filled None = false
is_filled (Some h) = true

unfoldable pub filled_in : List Property → ℕ
filled_in [] = 0
filled_in (p ∷ ps) = cond (is_filled p.value) 1 0 + filled_in ps

-- "Questions: 6, 12, 16, 3 as they apply."
unfoldable pub reply : Table → Question → Answer Value
reply t ask_count = gives (a_number (length t.devices))
reply t (ask_nth i) = and_then (at i t.devices) (λ v. gives (an_id v.id))
reply t (ask_states d) = and_then (find d t.devices) (λ v. gives (two_states v.state (effective t.devices v) v.time))
reply t (ask_root d) = and_then (find d t.devices) (λ v. gives (a_text (root_of v.description)))
reply t (ask_parent d) = and_then (find d t.devices) (λ v. gives (a_text (parent_of v.description)))
reply t (ask_version d) = and_then (find d t.devices) (λ v. gives (a_version (version_of v.description)))
reply t (ask_filled d) = and_then (find d t.devices) (λ v. gives (a_number (filled_in (properties_of v.description))))
reply t (ask_property d i) = and_then (find d t.devices) (λ v. and_then (at i (properties_of v.description)) (λ p. gives (a_property p.declared)))
reply t (ask_lane d n p k) = and_then (find d t.devices) (λ v. and_then (find_property n p (properties_of v.description)) (λ q. gives (a_lane (lane_of k q))))
reply t ask_last = gives (a_time t.last)

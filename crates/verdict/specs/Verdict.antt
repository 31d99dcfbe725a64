-- What the answer of `judge` says: a refusal, or a verdict, which says what becomes of the devices, by rank.
use Rattle.std.specs.Prelude.{ℕ, ◌≤◌, ◌<◌, ◌≡◌, List, Bool, length, None, Result, Ok, Err, IfOk}
use Rattle.answer.specs.Answer.{Answer, refused, gives, and_then}
use Rattle.answer.specs.Refused.{refusal_of}
use Rattle.answer.specs.declared.Refused.{Refused}
use Rattle.text.specs.Places.{bytes_at}
use Rattle.memory.specs.Bytes.{remove_at, insert_at}
use Rattle.text.specs.Ids.{id_most}
use Rattle.device.specs.Layout.{properties_most, payload_most}
use Rattle.rules.specs.Table.{Device, Table, with_lane}
use Rattle.rules.specs.Find.{in_device, change_at}
use Rattle.rules.specs.Messages.{Message, with_state, new_device, with_description, redescribed, held_by, admitted_form, obey}
use Rattle.rules.specs.Questions.{at}
use Rattle.lookup.specs.Meaning.{opening_of, means, devices_in}
use Rattle.verdict.specs.declared.Verdict.{Verdict}
use Rattle.verdict.specs.declared.Verdict.TheVariants.{Time, Remove, State, Create, Undescribe, Describe, Lane}

-- a finished message, by its parts
abbrev pub sent : ℕ → List ℕ → Bool → List ℕ → Message
sent time topic retained payload = record { time = time; topic = topic; retained = retained; payload = payload }

-- what becomes of the devices; a description is judged when it is written: 12, then 21 to 25. (No rank is refused here: see Writable)
unfoldable pub makes : Message → List Device → Verdict → Answer (List Device)
makes x ds Time = gives ds
makes x ds (Remove r) = gives (remove_at r ds)
makes x ds (State r s) = gives (change_at r (with_state s x.time) ds)
makes x ds (Create r s id) = gives (insert_at r (new_device (bytes_at x.topic id) s x.time) ds)
makes x ds (Undescribe r) = gives (change_at r (with_description None) ds)
makes x ds (Describe r id) = and_then (at r ds) (λ v. and_then (redescribed (bytes_at x.topic id) v.description x.payload) (λ y. gives (change_at r (with_description y) ds)))
makes x ds (Lane r i kind) = gives (change_at r (in_device (change_at i (with_lane kind (held_by x)))) ds)

-- by the answer of the code
abbrev pub made : Message → List Device → Result Verdict Refused → Answer (List Device)
made x ds (Ok v) = makes x ds v
made x ds (Err r) = refused (refusal_of r)

-- its ranks are ranks, and what it writes has room, with at most d devices
abbrev pub Writable : ℕ → Message → List Device → Verdict → Type 0
Writable d x ds Time = Unit
Writable d x ds (Remove r) = r < length ds
Writable d x ds (State r s) = r < length ds
Writable d x ds (Create r s id) = (r ≤ length ds) × (length ds < d) × (length (bytes_at x.topic id) ≤ id_most)
Writable d x ds (Undescribe r) = r < length ds
Writable d x ds (Describe r id) = r < length ds
Writable d x ds (Lane r i kind) = (r < length ds) × (i < properties_most) × (length x.payload ≤ payload_most)

-- it says what it should, and can be written
pub record Judged (d : ℕ) (x : Message) (ds : List Device) (should : Answer (List Device)) (v : Result Verdict Refused) : Type 0 where
  pub says : made x ds v ≡ should
  pub fits : IfOk v (Writable d x ds)

-- what the rules make of the devices
unfoldable pub obeyed : (domain : List ℕ) → (d : ℕ) → Table → Message → Answer (List Device)
obeyed domain d t x = and_then (admitted_form domain t x) (λ f. obey d x t.devices f)

-- a verdict on a message to the table that memory means
abbrev pub Verdicts : (m : List ℕ) → Message → Result Verdict Refused → Type 0
Verdicts m x v = Judged (opening_of m).devices x (devices_in m) (obeyed (opening_of m).domain (opening_of m).devices (means m).now x) v

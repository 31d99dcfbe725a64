-- What the contracts of private functions cite. No promise rests on it. From the top: the verdict on a message (crate verdict) is carried out by a function
-- of its own, that function writes over a device's room or changes another room, and the journal commits the change.
use Rattle.std.specs.Prelude.{ℕ, ◌+◌, ◌≤◌, ◌<◌, ◌≡◌, List, Bool, length, get_or, Some, Ok}
use Rattle.answer.specs.Answer.{Answer, gives}
use Rattle.text.specs.Places.{bytes_at}
use Rattle.text.specs.declared.Place.{Place}
use Rattle.memory.specs.Layout.{room_size}
use Rattle.memory.specs.State.{Change, change, state}
use Rattle.journal.specs.Contract.{change_of, AbleTo}
use Rattle.book.specs.Book.{message}
use Rattle.rules.specs.declared.DeviceState.{DeviceState}
use Rattle.rules.specs.declared.LaneKind.{LaneKind}
use Rattle.rules.specs.Table.{Device}
use Rattle.rules.specs.Find.{change_at}
use Rattle.rules.specs.Messages.{Message}
use Rattle.rules.specs.Questions.{Value}
use Rattle.lookup.specs.Meaning.{Sound, last_of, table_of, opening_of, means, devices_in}
use Rattle.lookup.specs.Contract.{Did}
use Rattle.verdict.specs.declared.Verdict.{Verdict}
use Rattle.verdict.specs.declared.Verdict.TheVariants.{Create, Describe, Lane}
use Rattle.verdict.specs.Verdict.{sent, obeyed, Verdicts}
use Rattle.patch.specs.Makes.{Makes}

-- ---- a verdict carried out

-- where this is the verdict on the message, the call keeps its promise
abbrev pub Obeys : (m : List ℕ) → Message → Verdict → (m' : List ℕ) → Answer Value → Type 0
Obeys m x v m' a = Sound m → Verdicts m x (Ok v) → Did (message x) m m' a

-- for every message of this time
abbrev pub Carries : (m : List ℕ) → (time : ℕ) → Verdict → (m' : List ℕ) → Answer Value → Type 0
Carries m time v m' a = (topic : List ℕ) (retained : Bool) (payload : List ℕ) → Obeys m (sent time topic retained payload) v m' a

-- for every message of this time with this payload
abbrev pub Fills : (m : List ℕ) → (rank property : ℕ) → LaneKind → (payload : List ℕ) → (time : ℕ) → (m' : List ℕ) → Answer Value → Type 0
Fills m rank i kind payload time m' a = (topic : List ℕ) (retained : Bool) → Obeys m (sent time topic retained payload) (Lane rank i kind) m' a

-- for every message of this time whose topic has this device ID at the verdict's place
abbrev pub Creates : (m : List ℕ) → (rank : ℕ) → (id : List ℕ) → DeviceState → (time : ℕ) → (m' : List ℕ) → Answer Value → Type 0
Creates m rank id s time m' a =
    (topic : List ℕ) (retained : Bool) (payload : List ℕ) (p : Place) → id ≡ bytes_at topic p → Obeys m (sent time topic retained payload) (Create rank s p) m' a

-- and with this payload
abbrev pub Describes : (m : List ℕ) → (rank : ℕ) → (id payload : List ℕ) → (time : ℕ) → (m' : List ℕ) → Answer Value → Type 0
Describes m rank id payload time m' a =
    (topic : List ℕ) (retained : Bool) (p : Place) → id ≡ bytes_at topic p → Obeys m (sent time topic retained payload) (Describe rank p) m' a

-- ---- a room written

-- where the rules make these devices of a message of this time, the call keeps its promise
abbrev pub Stores : (m : List ℕ) → (time : ℕ) → List Device → (m' : List ℕ) → Answer Value → Type 0
Stores m time ds m' a = (x : Message) → x.time ≡ time → obeyed (opening_of m).domain (opening_of m).devices (means m).now x ≡ gives ds → Did (message x) m m' a

-- bytes over those of a device's room: they change the device by any f that they make of it
abbrev pub Patches : (m : List ℕ) → (rank offset : ℕ) → (bytes : List ℕ) → (time : ℕ) → (m' : List ℕ) → Answer Value → Type 0
Patches m rank offset bytes time m' a =
    Sound m → rank < length (devices_in m) → offset + length bytes ≤ room_size → (f : Device → Device) → Makes offset bytes f → Stores m time (change_at rank f (devices_in m)) m' a

-- a change that the journal can commit, and that makes these devices and this last time
pub record Edits (m : List ℕ) (c : Change) (time : ℕ) (ds : List Device) : Type 0 where
  pub able : AbleTo m c
  pub table : table_of (change c (state m).now) ≡ record { devices = ds; last = Some time }

-- a change of any room, committed with a head that has n devices and this time: any devices that it makes with such a head
abbrev pub Writes : (m : List ℕ) → (from to n offset : ℕ) → (bytes : List ℕ) → (time : ℕ) → (m' : List ℕ) → Answer Value → Type 0
Writes m from to n offset bytes time m' a =
    Sound m → (ds : List Device) →
    ((head : List ℕ) → get_or head 0 0 ≡ n → last_of head ≡ Some time → Edits m (change_of from to offset bytes head) time ds) → Stores m time ds m' a

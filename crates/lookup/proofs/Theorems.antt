-- What the crate promises beyond its contracts: every list of calls is answered as the plain book answers it, 6 exactly where memory is not sound,
-- which device a room means, and how each kind of call keeps its promise.
use Prim.Native.Nat.{ℕ, ◌<◌}
use mathlib.Core.Path.{◌≡◌, sym}
use mathlib.Core.Bool.{Bool, true, false, cond}
use mathlib.Core.List.{List}
use lib.ListN.{length, get_or}
use Rattle.answer.specs.Answer.{Answer, refused, gives, only}
use Rattle.text.specs.Ids.{is_id}
use Rattle.memory.specs.Layout as layout
use Rattle.memory.specs.State.{Change, state, change, room_of}
use Rattle.journal.specs.Contract as journal
use Rattle.book.specs.Book.{Call, blank, answers, message, step_back, steps, Run}
use Rattle.rules.specs.Table.{Table, Device}
use Rattle.rules.specs.Messages as messages
use Rattle.rules.specs.Messages.{Message}
use Rattle.rules.specs.Questions.{Question, Value, taken, a_number}
use Rattle.rules.specs.Rules.{rules}
use Rattle.rules.proofs.Refusals.{state_no_six}
use Rattle.device.specs.Decode.{device_of}
use Rattle.lookup.specs.Meaning.{Sound, table_of, opening_of, means}
use Rattle.lookup.specs.Contract.{answer_of, is_taken, Did, open_answer, Opened}
use Rattle.lookup.proofs.Demand as demand
use Rattle.lookup.proofs.Ranks as ranks
use Rattle.lookup.proofs.Steps as after
use Rattle.lookup.proofs.Calls as calls

-- "This is one claim over every list of calls": after a taken opening, whatever calls follow, the answers are the book's, "and 6 never occurs".
module _ {before m m' domain : List ℕ} {d j : ℕ} {a : Answer Value} {calls : List (Call Message Question)} {said : List (Answer Value)} where
  pub reversible : Opened before domain d j m a → is_taken a ≡ true → Run (rules domain d) Did m calls said m' → said ≡ answers (rules domain d) j (blank (rules domain d)) calls
  reversible = demand.reversible

  pub never-unsound : Opened before domain d j m a → is_taken a ≡ true → Run (rules domain d) Did m calls said m' → (i : ℕ) → get_or said i (gives taken) ≡ refused (only 6) → ⊥
  never-unsound = demand.never-unsound

-- 6, "memory is not a sound table", and only then: a call that answers 6 found memory that is not sound.
pub only-unsound : {c : Call Message Question} {m m' : List ℕ} → Did c m m' (refused (only 6)) → Sound m → ⊥
only-unsound {c} {m} did s = state_no_six (opening_of m).domain (opening_of m).devices (means m) c (sym (did.answered s))

-- The device of a rank is what the room at that place of the order means.
pub device_at : (m : List ℕ) (i : ℕ) (z : Device) → i < length (means m).now.devices → get_or (means m).now.devices i z ≡ device_of (room_of (state m).now i)
device_at = ranks.device_at

-- Memory that is not sound: 6, and nothing changed.
pub unsound : (c : Call Message Question) (m : List ℕ) → (Sound m → ⊥) → Did c m m (refused (only 6))
unsound = calls.unsound

-- Sound memory, unchanged: every answer of the rules that is not "taken".
pub left : (c : Call Message Question) (m : List ℕ) (a : Answer Value) → Sound m → a ≡ answer_of m c → is_taken a ≡ false → Did c m m a
left = calls.left

-- A taken message is one commit that makes of the table what the rules say.
pub took : (m m' : List ℕ) (c : Change) (x : Message) (t : Table) → Sound m → journal.Committed m c m' true
    → messages.message (opening_of m).domain (opening_of m).devices (means m).now x ≡ gives t → table_of (change c (state m).now) ≡ t → Did (message x) m m' (gives taken)
took = calls.took

-- A step back is an undo.
pub back : (m m' : List ℕ) (r : Bool) → Sound m → journal.Undone m m' r → Did step_back m m' (cond r (gives taken) (refused (only 18)))
back = calls.back

-- "steps on offer" are those of the ring.
pub steps-says : (m : List ℕ) → answer_of m steps ≡ gives (a_number (layout.steps m))
steps-says = after.steps-says

-- An opening is the journal's, for a domain that is an ID.
pub opened : (m domain : List ℕ) (d j : ℕ) (m' : List ℕ) (r : Bool) → is_id domain ≡ true → journal.Opened m domain d j m' r → Opened m domain d j m' (open_answer r)
opened = calls.opened

pub no-domain : (m domain : List ℕ) (d j : ℕ) → is_id domain ≡ false → Opened m domain d j m (refused (only 5))
no-domain = calls.no-domain

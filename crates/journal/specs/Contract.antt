-- What the public calls promise of their answer and of the memory afterwards.
use Rattle.std.specs.Prelude.{ℕ, ◌+◌, ◌≤◌, ◌<◌, ◌≡◌, Bool, true, false, ◌&&◌, List, [], length, get_or, drop, replicate, leb}
use Rattle.memory.specs.Layout.{most, domain_most, head_size, image_at, depth, next, steps, size, from_of, to_of, count_of, offset_of, length_of}
use Rattle.memory.specs.Sound.{Sound, Able}
use Rattle.memory.specs.State.{Now, Change, State, state, room_of, made, offered, undone, place}

-- Paper 01, "The table": "Opened with a domain, devices D (1 to 64), depth J (0 to 64) and at least 8,192·(D+J+1) bytes"; the domain has 1 to 32 bytes
abbrev pub opens : (length_of-domain d j length_of-memory : ℕ) → Bool
opens n d j l = leb 1 d && (leb d most && (leb j most && (leb 1 n && (leb n domain_most && leb (image_at d j) l))))

-- opened: no device, the head all 0, nothing to step back to
abbrev pub fresh : List ℕ → ℕ → ℕ → List (List ℕ) → State
fresh domain d j rooms = record { domain = domain; capacity = d; depth = j; now = record { head = replicate head_size 0; rooms = rooms }; past = [] }

-- Free in the memory after a call is taken, and so never seen in its `state`: the header's spare bytes (6, 7, those behind the domain, those behind
-- the order's D, those from 2,176 on), which slot stands at which place of the order, the ring's next place, entries that are not on offer with
-- their step-back rooms, and of the others the two spare bytes and the room behind the bytes kept. Bytes past the size are not free: they stay.
-- Of opening free besides: what the D rooms hold, all of them free ones.
pub record Opened (m domain : List ℕ) (d j : ℕ) (m' : List ℕ) (r : Bool) : Type 0 where
  pub answered : r ≡ opens (length domain) d j (length m)
  pub refused : r ≡ false → m' ≡ m
  pub sound : r ≡ true → Sound m'
  pub opened : r ≡ true → state m' ≡ fresh domain d j (state m').now.rooms
  pub kept : length m' ≡ length m
  pub beyond : drop (image_at d j) m' ≡ drop (image_at d j) m

abbrev pub change_of : ℕ → ℕ → ℕ → List ℕ → List ℕ → Change
change_of from to offset bytes head = record { from = from; to = to; offset = offset; bytes = bytes; head = head }

-- a change that a state can take
pub record Right (s : Now) (c : Change) : Type 0 where
  pub starts : c.from < length s.rooms
  pub ends : c.to < length s.rooms
  pub inside : c.offset + length c.bytes ≤ length (room_of s c.from)

-- memory that can take it
abbrev pub AbleTo : List ℕ → Change → Type 0
AbleTo m c = Able m c.from c.to (get_or c.head 0 0) c.offset (length c.bytes)

-- any memory: taken exactly if able, else unchanged; sound memory: the state after is the state before with the change made, and sound again.
-- Memory that is not sound but able: the bytes below the size are free. No call of a table gets there, since it answers 6 first.
pub record Committed (m : List ℕ) (c : Change) (m' : List ℕ) (r : Bool) : Type 0 where
  pub taken : AbleTo m c → r ≡ true
  pub able : r ≡ true → AbleTo m c
  pub refused : r ≡ false → m' ≡ m
  pub sound : Sound m → Sound m'
  pub changed : Sound m → r ≡ true → state m' ≡ made c (state m)
  pub kept : length m' ≡ length m
  pub beyond : drop (size m) m' ≡ drop (size m) m

-- what a step back needs: one on offer, whose entry, the last one, can be undone
abbrev pub last : List ℕ → ℕ
last m = place (next m) (depth m) 0

pub record Offered (m : List ℕ) : Type 0 where
  pub some : 0 < steps m
  pub able : Able m (from_of m (last m)) (to_of m (last m)) (count_of m (last m)) (offset_of m (last m)) (length_of m (last m))

-- any memory: taken exactly if the last entry can be undone, else unchanged; sound memory: taken exactly if one is on offer, and the state is the last one before.
-- Memory that is not sound, with a last entry that can be undone: the bytes below the size are free, as in Committed.
pub record Undone (m m' : List ℕ) (r : Bool) : Type 0 where
  pub taken : Offered m → r ≡ true
  pub able : r ≡ true → Offered m
  pub refused : r ≡ false → m' ≡ m
  pub answered : Sound m → r ≡ offered (state m).past
  pub sound : Sound m → Sound m'
  pub changed : Sound m → state m' ≡ undone (state m)
  pub kept : length m' ≡ length m
  pub beyond : drop (size m) m' ≡ drop (size m) m

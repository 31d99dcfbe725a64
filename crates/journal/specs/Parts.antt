-- What the private functions do, for their contracts only.
use Rattle.std.specs.Prelude.{ℕ, suc, ◌+◌, ◌≤◌, ◌<◌, ◌≡◌, List, ◌∷◌, length, get_or, take, eqb}
use Rattle.little_endian.specs.Bytes.{u16}
use Rattle.memory.specs.Bytes.{span, move}
use Rattle.memory.specs.Layout.{room_size, most, mark, mark_at, image_at, domain_at, domain_most, room_at, head_at, head_size, order_at, capacity, depth, domain_length, size, slot, from_of, entry_size}
use Rattle.memory.specs.Sound.{Header, Sound}
use Rattle.memory.specs.State.{Change, change, pick, current, entries}

-- the n bytes from `to` on are f 0, f 1, .. now, and the others are as they were
pub record Over (m : List ℕ) (f : ℕ → ℕ) (to n : ℕ) (m' : List ℕ) : Type 0 where
  pub kept : length m' ≡ length m
  pub inside : (i : ℕ) → i < n → get_or m' (to + i) 0 ≡ f i
  pub below : (i : ℕ) → i < to → get_or m' i 0 ≡ get_or m i 0
  pub above : (i : ℕ) → to + n ≤ i → get_or m' i 0 ≡ get_or m i 0

-- the head was replaced, and an element of the order of d slots moved
pub record Settled (m head : List ℕ) (d from to : ℕ) (m' : List ℕ) : Type 0 where
  pub kept : length m' ≡ length m
  pub whole : length head ≡ head_size
  pub replaced : (i : ℕ) → i < head_size → get_or m' (head_at + i) 0 ≡ get_or head i 0
  pub moved : span m' order_at d ≡ move 0 from to (span m order_at d)
  pub below : (i : ℕ) → i < head_at → get_or m' i 0 ≡ get_or m i 0
  pub above : (i : ℕ) → order_at + d ≤ i → get_or m' i 0 ≡ get_or m i 0

-- the place after h, of j
abbrev pub turn : ℕ → ℕ → ℕ
turn h j = pick (eqb (suc h) j) 0 (suc h)

-- the entry at the place p can be undone
pub record Ready (m : List ℕ) (p : ℕ) : Type 0 where
  pub there : slot m (from_of m p) < capacity m

-- an entry of 32 bytes was written: `from` and `to` swapped, the offset and the length in two bytes each, the head
pub record Noted (m : List ℕ) (at from to offset len : ℕ) (m' : List ℕ) : Type 0 where
  pub kept : length m' ≡ length m
  pub starts : get_or m' at 0 ≡ to
  pub ends : get_or m' (at + 1) 0 ≡ from
  pub first : u16 m' (at + 2) ≡ offset
  pub long : u16 m' (at + 4) ≡ len
  pub head : (i : ℕ) → i < head_size → get_or m' (at + 8 + i) 0 ≡ get_or m (head_at + i) 0
  pub below : (i : ℕ) → i < at → get_or m' i 0 ≡ get_or m i 0
  pub above : (i : ℕ) → at + entry_size ≤ i → get_or m' i 0 ≡ get_or m i 0

-- what each step keeps of the memory
pub record Stays (m m' : List ℕ) : Type 0 where
  pub header : Header m'
  pub d : capacity m' ≡ capacity m
  pub j : depth m' ≡ depth m
  pub domain : span m' domain_at (domain_length m') ≡ span m domain_at (domain_length m)
  pub kept : length m' ≡ length m
  pub beyond : (i : ℕ) → size m ≤ i → get_or m' i 0 ≡ get_or m i 0

-- the entry e was saved, and nothing else changed
pub record Saved (m : List ℕ) (e : Change) (m' : List ℕ) : Type 0 where
  pub stays : Stays m m'
  pub slots : (i : ℕ) → i < capacity m → slot m' i ≡ slot m i
  pub sound : Sound m → Sound m'
  pub same : Sound m → current m' ≡ current m
  pub offer : Sound m → entries m' ≡ take (depth m) (e ∷ entries m)

-- the entry that undoes a change, read off the memory
abbrev pub saving : List ℕ → ℕ → ℕ → ℕ → ℕ → Change
saving m from to offset len = record {
  from = to;
  to = from;
  offset = offset;
  bytes = span m (room_at (slot m from) + offset) len;
  head = span m head_at head_size;
}

-- the change c was made, and nothing saved
pub record Changed (m : List ℕ) (c : Change) (m' : List ℕ) : Type 0 where
  pub stays : Stays m m'
  pub sound : Sound m → Sound m'
  pub moved : Sound m → current m' ≡ change c (current m)
  pub offer : Sound m → entries m' ≡ entries m

-- the last entry was undone and taken off the ring
pub record Restored (m m' : List ℕ) : Type 0 where
  pub entry : Change
  pub stays : Stays m m'
  pub sound : Sound m → Sound m'
  pub moved : Sound m → current m' ≡ change entry (current m)
  pub offer : Sound m → entries m ≡ entry ∷ entries m'

-- what opening needs, fact by fact
pub record Opens (n d j l : ℕ) : Type 0 where
  pub some : 1 ≤ d
  pub few : d ≤ most
  pub deep : j ≤ most
  pub named : 1 ≤ n
  pub short : n ≤ domain_most
  pub long : image_at d j ≤ l

-- room 0 is 0 but for the mark, D, J and the length of the domain
pub record Marked (m : List ℕ) (n d j : ℕ) (m' : List ℕ) : Type 0 where
  pub kept : length m' ≡ length m
  pub marked : get_or m' mark_at 0 ≡ mark
  pub capacity_is : capacity m' ≡ d
  pub depth_is : depth m' ≡ j
  pub length_is : domain_length m' ≡ n
  pub ring : (i : ℕ) → 3 ≤ i → i < 5 → get_or m' i 0 ≡ 0
  pub zero : (i : ℕ) → 6 ≤ i → i < room_size → get_or m' i 0 ≡ 0
  pub above : (i : ℕ) → room_size ≤ i → get_or m' i 0 ≡ get_or m i 0

-- the whole header of memory with no device: the domain, and the order 0, 1, 2, ..
pub record Laid (m domain : List ℕ) (d j : ℕ) (m' : List ℕ) : Type 0 where
  pub kept : length m' ≡ length m
  pub marked : get_or m' mark_at 0 ≡ mark
  pub capacity_is : capacity m' ≡ d
  pub depth_is : depth m' ≡ j
  pub length_is : domain_length m' ≡ length domain
  pub ring : (i : ℕ) → 3 ≤ i → i < 5 → get_or m' i 0 ≡ 0
  pub named : (i : ℕ) → i < length domain → get_or m' (domain_at + i) 0 ≡ get_or domain i 0
  pub head : (i : ℕ) → i < head_size → get_or m' (head_at + i) 0 ≡ 0
  pub order : (i : ℕ) → i < most → slot m' i ≡ i
  pub zero : (i : ℕ) → 128 ≤ i → i < room_size → get_or m' i 0 ≡ 0
  pub above : (i : ℕ) → room_size ≤ i → get_or m' i 0 ≡ get_or m i 0

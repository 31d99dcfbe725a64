-- What sound memory means: the state, the states that steps back lead to, and what a change makes of them.
use Rattle.std.specs.Prelude.{ℕ, suc, ◌+◌, ◌-◌, Bool, true, false, List, [], ◌∷◌, map, length, get_or, set, take, ltb}
use Rattle.little_endian.specs.Bytes.{put}
use Rattle.memory.specs.Bytes.{span, move, tab}
use Rattle.memory.specs.Layout.{room_size, room_at, image_at, head_at, head_size, order_at, domain_at, capacity, depth, next, steps, domain_length, from_of, to_of, offset_of, length_of, head_of, count_of}

-- the head, whose first byte is the number n of devices, and the D rooms in their order: n devices by rank, then the free ones
pub record Now : Type 0 where
  pub head : List ℕ
  pub rooms : List (List ℕ)

-- a change: the room at `from` gets `bytes` at `offset` and moves to `to`, and the head is replaced
pub record Change : Type 0 where
  pub from : ℕ
  pub to : ℕ
  pub offset : ℕ
  pub bytes : List ℕ
  pub head : List ℕ

abbrev pub room_of : Now → ℕ → List ℕ
room_of s i = get_or s.rooms i []

abbrev pub change : Change → Now → Now
change c s = record {
  head = c.head;
  rooms = move [] c.from c.to (set s.rooms c.from (put (room_of s c.from) c.offset c.bytes));
}

-- the rooms of the devices, by rank
abbrev pub number : Now → ℕ
number s = get_or s.head 0 0

abbrev pub devices : Now → List (List ℕ)
devices s = take (number s) s.rooms

-- the change that undoes it: turned round, with the old bytes and the old head
abbrev pub inverse : Change → Now → Change
inverse c s = record {
  from = c.to;
  to = c.from;
  offset = c.offset;
  bytes = span (room_of s c.from) c.offset (length c.bytes);
  head = s.head;
}

-- the states that steps back lead to: one entry undone after another
unfoldable pub pasts : Now → List Change → List Now
pasts s [] = []
pasts s (e ∷ es) = change e s ∷ pasts (change e s) es

-- what memory holds: the head and the rooms in their order
unfoldable pub order : List ℕ → List ℕ
order m = span m order_at (capacity m)

unfoldable pub room : List ℕ → ℕ → List ℕ
room m k = span m (room_at k) room_size

unfoldable pub current : List ℕ → Now
current m = record { head = span m head_at head_size; rooms = map (room m) (order m) }

-- the entry at the place p of the ring; its head is the one saved, with the number of devices as read
unfoldable pub entry : List ℕ → ℕ → Change
entry m p = record {
  from = from_of m p;
  to = to_of m p;
  offset = offset_of m p;
  bytes = span m (image_at (capacity m) p) (length_of m p);
  head = set (span m (head_of p) head_size) 0 (count_of m p);
}

abbrev pub pick : {A : Type 0} → Bool → A → A → A
pick true a b = a
pick false a b = b

-- the place of the i-th last entry, in a ring of j places whose next place is h
unfoldable pub place : ℕ → ℕ → ℕ → ℕ
place h j i = pick (ltb i h) (h - suc i) ((h + j) - suc i)

-- the entries, the last one first
unfoldable pub entries : List ℕ → List Change
entries m = tab (steps m) (λ i. entry m (place (next m) (depth m) i))

-- all of it: the domain, D and J of the opening, the state now, the states that steps back lead to
pub record State : Type 0 where
  pub domain : List ℕ
  pub capacity : ℕ
  pub depth : ℕ
  pub now : Now
  pub past : List Now

unfoldable pub state : List ℕ → State
state m = record {
  domain = span m domain_at (domain_length m);
  capacity = capacity m;
  depth = depth m;
  now = current m;
  past = pasts (current m) (entries m);
}

-- a change is made, and the state before it is one step back, of at most J: "Every message taken becomes .. one step"
abbrev pub made : Change → State → State
made c s = record {
  domain = s.domain;
  capacity = s.capacity;
  depth = s.depth;
  now = change c s.now;
  past = take s.depth (s.now ∷ s.past);
}

-- a step back, where one is on offer
abbrev pub offered : List Now → Bool
offered [] = false
offered (t ∷ ts) = true

abbrev pub undone_to : State → List Now → State
undone_to s [] = s
undone_to s (t ∷ ts) = record { domain = s.domain; capacity = s.capacity; depth = s.depth; now = t; past = ts }

abbrev pub undone : State → State
undone s = undone_to s s.past

-- Where things stand in the lent memory: rooms of 8,192 bytes. Room 0 is the header; then the rooms of D devices, then J step-back rooms.
use Rattle.std.specs.Prelude.{ℕ, ◌+◌, ◌-◌, ◌*◌, min, List, get_or}
use Rattle.little_endian.specs.Bytes.{u16}
use Rattle.text.specs.Ids.{id_most}

-- paper 01, "The table": "the room of one device is 8,192 bytes"
abbrev pub room_size : ℕ
room_size = 8192

-- "devices D (1 to 64), depth J (0 to 64)"
abbrev pub most : ℕ
most = 64

-- the header's single bytes: the mark, D, J, the ring's next place, the steps on offer, the length of the domain
abbrev pub mark : ℕ
mark = 72

abbrev pub mark_at : ℕ
mark_at = 0

abbrev pub capacity_at : ℕ
capacity_at = 1

abbrev pub depth_at : ℕ
depth_at = 2

abbrev pub next_at : ℕ
next_at = 3

abbrev pub steps_at : ℕ
steps_at = 4

abbrev pub domain_length_at : ℕ
domain_length_at = 5

-- the domain, an ID
abbrev pub domain_at : ℕ
domain_at = 8

abbrev pub domain_most : ℕ
domain_most = id_most

-- the head, copied whole by each step: first the number of devices, then what the user of this crate keeps there
abbrev pub head_at : ℕ
head_at = 40

abbrev pub head_size : ℕ
head_size = 24

-- the order: the slot numbers of the D device rooms, the devices by rank, then the free ones
abbrev pub order_at : ℕ
order_at = 64

-- the ring: 32 bytes for each step-back room: from, to, offset and length of two bytes each, two spare bytes, the head
abbrev pub entries_at : ℕ
entries_at = 128

abbrev pub entry_size : ℕ
entry_size = 32

abbrev pub capacity : List ℕ → ℕ
capacity m = get_or m capacity_at 0

abbrev pub depth : List ℕ → ℕ
depth m = get_or m depth_at 0

abbrev pub next : List ℕ → ℕ
next m = get_or m next_at 0

abbrev pub steps : List ℕ → ℕ
steps m = get_or m steps_at 0

abbrev pub domain_length : List ℕ → ℕ
domain_length m = get_or m domain_length_at 0

abbrev pub count : List ℕ → ℕ
count m = get_or m head_at 0

-- the slot at a place of the order
abbrev pub slot : List ℕ → ℕ → ℕ
slot m i = get_or m (order_at + i) 0

-- where a device's room starts, and a step-back room; and the size of it all: 8,192·(D+J+1)
abbrev pub room_at : ℕ → ℕ
room_at k = room_size + room_size * k

abbrev pub image_at : ℕ → ℕ → ℕ
image_at d p = room_size + room_size * d + room_size * p

abbrev pub size : List ℕ → ℕ
size m = image_at (capacity m) (depth m)

-- an entry of the ring, field by field; a number past its limit reads as the limit, so each entry is a change that the rooms can take
abbrev pub entry_at : ℕ → ℕ
entry_at p = entries_at + entry_size * p

abbrev pub from_of : List ℕ → ℕ → ℕ
from_of m p = min (get_or m (entry_at p) 0) (capacity m - 1)

abbrev pub to_of : List ℕ → ℕ → ℕ
to_of m p = min (get_or m (entry_at p + 1) 0) (capacity m - 1)

abbrev pub offset_of : List ℕ → ℕ → ℕ
offset_of m p = min (u16 m (entry_at p + 2)) room_size

abbrev pub length_of : List ℕ → ℕ → ℕ
length_of m p = min (u16 m (entry_at p + 4)) (room_size - offset_of m p)

abbrev pub head_of : ℕ → ℕ
head_of p = entry_at p + 8

abbrev pub count_of : List ℕ → ℕ → ℕ
count_of m p = min (get_or m (head_of p) 0) (capacity m)

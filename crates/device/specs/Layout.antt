-- Where things stand in a device's room of 8,192 bytes: a head of 512 bytes and 24 records of 320 bytes, one for each property.
use Rattle.std.specs.Prelude.{ℕ, ◌+◌, ◌*◌}
use Rattle.payload.specs.Formats as formats
use Rattle.payload.specs.Payloads as payloads
use Rattle.properties.specs.Entries as declared

-- the head: the ID (a length byte, then at most `id_most` bytes), the state's number, its time (8 bytes, the lowest first)
abbrev pub id_at : ℕ
id_at = 0

abbrev pub state_code_at : ℕ
state_code_at = 33

abbrev pub time_at : ℕ
time_at = 34

-- 42 to 402: spare and free, place for four alerts of 90 bytes and their number (the code writes 0 there for a new device; no contract says so yet)

-- From here to the room's end is the description's part.
-- whether there is a description (0: none), its root and parent (as the ID; length 0: none), its version (8 bytes, of the number plus 2^63), the number of properties
abbrev pub described_at : ℕ
described_at = 403

abbrev pub root_at : ℕ
root_at = 404

abbrev pub parent_at : ℕ
parent_at = 437

abbrev pub version_at : ℕ
version_at = 470

abbrev pub count_at : ℕ
count_at = 478

-- 479 to 511: spare, the first for a flag of the description

-- "At most 24 properties in all."
abbrev pub properties_most : ℕ
properties_most = declared.properties_most

abbrev pub records_at : ℕ
records_at = 512

abbrev pub record_size : ℕ
record_size = 320

abbrev pub record_at : ℕ → ℕ
record_at i = records_at + record_size * i

-- a record, from its first byte: the node's ID, the property's ID, the datatype's number, settable and retained (0: no), the kept format, three lanes
abbrev pub node_at : ℕ
node_at = 0

abbrev pub property_at : ℕ
property_at = 33

abbrev pub datatype_code_at : ℕ
datatype_code_at = 66

abbrev pub settable_at : ℕ
settable_at = 67

abbrev pub retained_at : ℕ
retained_at = 68

abbrev pub format_at : ℕ
format_at = 69

abbrev pub format_most : ℕ
format_most = formats.format_most

abbrev pub lanes_at : ℕ
lanes_at = 134

abbrev pub lane_size : ℕ
lane_size = 57

abbrev pub lane_at : ℕ → ℕ → ℕ
lane_at i k = record_at i + lanes_at + lane_size * k

-- a lane, from its first byte: its time (8 bytes), its payload (a length byte, 0: empty, then at most `payload_most` bytes)
abbrev pub payload_at : ℕ
payload_at = 8

abbrev pub payload_most : ℕ
payload_most = payloads.payload_most

-- What the bytes of a device's room mean. Any bytes mean a device: a length above its limit reads as the limit, a number past the last as the last.
use Rattle.std.specs.Prelude.{ℕ, ◌+◌, ◌^◌, min, List, Bool, true, false, not, get_or, eqb, Option, None, Some}
use Rattle.little_endian.specs.Bytes.{u64}
use Rattle.numbers.specs.Whole.{stands}
use Rattle.memory.specs.Bytes.{span, tab}
use Rattle.payload.specs.Datatypes.{datatype_at}
use Rattle.properties.specs.Property as declaration
use Rattle.rules.specs.States.{state_at}
use Rattle.rules.specs.Table.{Held, Property, Description, Device}
use Rattle.text.specs.Ids.{id_most}
use Rattle.device.specs.Layout.{id_at, state_code_at, time_at, described_at, root_at, parent_at, version_at, count_at, properties_most, record_at, node_at, property_at, datatype_code_at, settable_at, retained_at, format_at, format_most, lanes_at, lane_size, payload_at, payload_most}

-- a byte that is not 0
unfoldable pub is_set : List ℕ → ℕ → Bool
is_set r at = not (eqb (get_or r at 0) 0)

-- a byte string: a length byte, then the bytes
unfoldable pub text_at : List ℕ → (at most : ℕ) → List ℕ
text_at r at most = span r (at + 1) (min (get_or r at 0) most)

-- a byte string that may be missing: then its length is 0
unfoldable pub optional_at : List ℕ → (at most : ℕ) → Option (List ℕ)
optional_at r at most = elim (is_set r at) [ true ↦ Some (text_at r at most) | false ↦ None ]

-- the lane that starts at a place
unfoldable pub held_at : List ℕ → ℕ → Option Held
held_at r a = elim (is_set r (a + payload_at)) [ true ↦ Some (record { time = u64 r a; payload = text_at r (a + payload_at) payload_most }) | false ↦ None ]

-- what the record that starts at a place declares
unfoldable pub declared_at : List ℕ → ℕ → declaration.Property
declared_at r a = record {
  node = text_at r (a + node_at) id_most;
  id = text_at r (a + property_at) id_most;
  datatype = datatype_at (get_or r (a + datatype_code_at) 0);
  format = text_at r (a + format_at) format_most;
  settable = is_set r (a + settable_at);
  retained = is_set r (a + retained_at);
}

-- the property whose record starts at a place
unfoldable pub record_of : List ℕ → ℕ → Property
record_of r a = record {
  declared = declared_at r a;
  value = held_at r (a + lanes_at);
  target = held_at r (a + (lanes_at + lane_size));
  asked = held_at r (a + (lanes_at + (lane_size + lane_size)));
}

unfoldable pub count_in : List ℕ → ℕ
count_in r = min (get_or r count_at 0) properties_most

unfoldable pub properties_in : List ℕ → List Property
properties_in r = tab (count_in r) (λ i. record_of r (record_at i))

unfoldable pub description_in : List ℕ → Option Description
description_in r = elim (is_set r described_at) [
  | true ↦ Some (record { root = optional_at r root_at id_most; parent = optional_at r parent_at id_most; version = stands (2 ^ 63) (u64 r version_at); properties = properties_in r })
  | false ↦ None
]

unfoldable pub device_of : List ℕ → Device
device_of r = record {
  id = text_at r id_at id_most;
  state = state_at (get_or r state_code_at 0);
  time = u64 r time_at;
  description = description_in r;
}

-- What sound memory means: the table, and the tables that steps back lead to.
use Rattle.std.specs.Prelude.{ℕ, ◌≡◌, List, map, true, false, Option, None, Some}
use Rattle.text.specs.Ids.{is_id}
use Rattle.little_endian.specs.Bytes.{u64}
use Rattle.memory.specs.Sound as soundness
use Rattle.memory.specs.State.{Now, devices, state}
use Rattle.book.specs.Book.{State}
use Rattle.rules.specs.Table.{Device, Table}
use Rattle.device.specs.Decode.{is_set, device_of}

-- Paper 01, 6: "memory is not a sound table": the rule of the memory (crate memory), and "The table is opened for one domain, an ID."
pub record Sound (m : List ℕ) : Type 0 where
  pub memory : soundness.Sound m
  pub domain : is_id (state m).domain ≡ true

-- "last time (or none)": behind the number of devices the head has a byte, 0 for none, then the time in 8 bytes
abbrev pub last_flag_at : ℕ
last_flag_at = 1

abbrev pub last_at : ℕ
last_at = 2

unfoldable pub last_of : List ℕ → Option ℕ
last_of head = elim (is_set head last_flag_at) [ true ↦ Some (u64 head last_at) | false ↦ None ]

unfoldable pub table_of : Now → Table
table_of s = record { devices = map device_of (devices s); last = last_of s.head }

-- the domain, D and J of the opening
pub record Opening : Type 0 where
  pub domain : List ℕ
  pub devices : ℕ
  pub depth : ℕ

unfoldable pub opening_of : List ℕ → Opening
opening_of m = record { domain = (state m).domain; devices = (state m).capacity; depth = (state m).depth }

unfoldable pub means : List ℕ → State Table
means m = record { now = table_of (state m).now; past = map table_of (state m).past }

abbrev pub devices_in : List ℕ → List Device
devices_in m = (means m).now.devices

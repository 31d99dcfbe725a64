-- What a change of memory makes of the table.
use Rattle.std.specs.Prelude.{Option}
use Prim.Native.Nat.{ℕ, suc, ◌≤◌, ◌<◌}
use mathlib.Core.Path.{◌≡◌, ap, ◌∙◌}
use mathlib.Core.List.{List, [], map}
use lib.ListN.{length, set}
use Rattle.little_endian.specs.Bytes.{put}
use Rattle.memory.specs.Bytes.{insert_at, remove_at}
use Rattle.memory.specs.State.{Now, Change, room_of, number, devices, change}
use Rattle.memory.proofs.Lists.{map-insert_at, map-remove_at}
use Rattle.journal.proofs.Theorems as journal
use Rattle.rules.specs.Table.{Table, Device}
use Rattle.device.specs.Decode.{device_of}
use Rattle.lookup.specs.Meaning.{last_of, table_of}
use Rattle.lookup.proofs.Lists.{map-set}

abbrev pub with : List Device → Option ℕ → Table
with ds last = record { devices = ds; last = last }

module _ (s : Now) (c : Change) (inside : number s ≤ length s.rooms) where
  -- the device that the room at `from` means then
  abbrev pub altered : Device
  altered = device_of (put (room_of s c.from) c.offset c.bytes)

  by-rooms : (ds : List Device) → map device_of (devices (change c s)) ≡ ds → table_of (change c s) ≡ with ds (last_of c.head)
  unfolding table_of
  by-rooms ds e = ap (λ (l : List Device). with l (last_of c.head)) e

  pub patched : c.to ≡ c.from → number (change c s) ≡ number s → c.from < number s → table_of (change c s) ≡ with (set (table_of s).devices c.from altered) (last_of c.head)
  unfolding table_of
  patched et en h = by-rooms _ (ap (map device_of) (journal.patched s c inside et en h) ∙ map-set device_of (devices s) c.from (put (room_of s c.from) c.offset c.bytes))

  pub created : c.from ≡ number s → number (change c s) ≡ suc (number s) → c.to ≤ number s → number s < length s.rooms
      → table_of (change c s) ≡ with (insert_at c.to altered (table_of s).devices) (last_of c.head)
  unfolding table_of
  created ef en h q = by-rooms _ (ap (map device_of) (journal.created s c inside ef en h q) ∙ map-insert_at device_of c.to (put (room_of s c.from) c.offset c.bytes) (devices s))

  pub removed : c.to ≡ number (change c s) → number s ≡ suc (number (change c s)) → c.from < number s → table_of (change c s) ≡ with (remove_at c.from (table_of s).devices) (last_of c.head)
  unfolding table_of
  removed et en h = by-rooms _ (ap (map device_of) (journal.removed s c inside et en h) ∙ map-remove_at device_of c.from (devices s))

  pub untouched : c.to ≡ c.from → number (change c s) ≡ number s → c.bytes ≡ [] → c.from < length s.rooms → table_of (change c s) ≡ with (table_of s).devices (last_of c.head)
  unfolding table_of
  untouched et en eb h = by-rooms _ (ap (map device_of) (journal.untouched s c inside et en eb h))

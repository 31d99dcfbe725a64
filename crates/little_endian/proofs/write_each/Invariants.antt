use mathlib.Core.Path.{◌≡◌}
use Prim.Native.Nat.{◌-◌, ◌≤◌}
use lib.ListN.{length, take, drop}
use Rattle.little_endian.specs.Bytes.{le_bytes, put}
use Rattle.little_endian.proofs.write_each.Given as goal

abbrev pub invariant-loop-j : goal.invariant-loop-j
invariant-loop-j l = (l.j ≤ l.w) × (length l.d ≡ length l.initial.d) × (l.d ≡ put l.initial.d l.at (take l.j (le_bytes l.w l.x))) × (drop l.j (le_bytes l.w l.x) ≡ le_bytes (l.w - l.j) l.v)

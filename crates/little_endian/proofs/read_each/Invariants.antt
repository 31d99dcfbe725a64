use mathlib.Core.Path.{◌≡◌}
use Prim.Native.Nat.{◌+◌, ◌-◌, ◌≤◌}
use Rattle.little_endian.specs.Bytes.{num}
use Rattle.little_endian.proofs.read_each.Given as goal

abbrev pub invariant-loop-j : goal.invariant-loop-j
invariant-loop-j l = (l.j ≤ l.w) × (l.v ≡ num (l.w - l.j) (l.at + l.j) l.s)

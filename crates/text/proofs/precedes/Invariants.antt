use mathlib.Core.Path.{◌≡◌}
use lib.ListN.{drop}
use Rattle.text.specs.Bytes.{less_bytes}
use Rattle.text.proofs.precedes.Given as goal

abbrev pub invariant-loop-i : goal.invariant-loop-i
invariant-loop-i l = less_bytes (drop l.i l.a) (drop l.i l.b) ≡ less_bytes l.a l.b

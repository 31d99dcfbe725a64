use Prim.Native.Nat.{ℕ}
use mathlib.Core.List.{List}
use Rattle.text.specs.Bytes.{eq_bytes}
use Rattle.lookup.specs.Meaning.{means}
use Rattle.lookup.proofs.Lists.{Passed}
use Rattle.lookup.proofs.Ranks.{by_id}
use Rattle.lookup.proofs.find.Given as goal

abbrev pub invariant-loop-i : goal.invariant-loop-i
invariant-loop-i l = Passed (by_id (λ (s : List ℕ). eq_bytes s l.id)) (means l.mem).now.devices l.i

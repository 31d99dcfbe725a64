use Prim.Native.Nat.{ℕ}
use mathlib.Core.List.{List}
use Rattle.text.specs.Bytes.{less_bytes}
use Rattle.lookup.specs.Meaning.{means}
use Rattle.lookup.proofs.Lists.{Passed}
use Rattle.lookup.proofs.Ranks.{by_id}
use Rattle.lookup.proofs.place_for.Given as goal

abbrev pub invariant-loop-place : goal.invariant-loop-place
invariant-loop-place l = Passed (by_id (λ (s : List ℕ). less_bytes l.id s)) (means l.mem).now.devices l.place

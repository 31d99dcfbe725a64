use Prim.Native.Nat.{ℕ, ◌≤◌}
use mathlib.Core.Path.{◌≡◌}
use lib.ListN.{get_or}
use Rattle.memory.specs.Parts.{total}
use Rattle.memory.proofs.marked.Given as goal

abbrev pub invariant-loop-k : goal.invariant-loop-k
invariant-loop-k l = (l.n ≡ total (λ (s : ℕ). get_or l.seen s 0) l.k) × (l.n ≤ l.k)

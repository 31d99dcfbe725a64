use Prim.Native.Nat.{ℕ, ◌+◌, ◌-◌}
use native.Mathlib.Omega.{arith}
use mathlib.Core.Path.{◌≡◌, ap, ap₂, ◌∙◌}
use mathlib.Core.List.{List}
use lib.ListN.{set, take, drop}
use Rattle.memory.specs.Bytes.{span}
use Rattle.journal.proofs.bytes.head_at.Goals as goal

pub returns : goal.returns
unfolding span
returns c =
    let n : (c.args.a + 24) - c.args.a ≡ 24 = omega arith in
    ap₂ (λ (l : List ℕ) (x : ℕ). set l 0 x) (c.copy_from_slice.ensures.after ∙ ap (λ (k : ℕ). take k (drop c.args.a c.args.mem.now)) n) c.byte_at.ensures

use Prim.Native.Nat.{ℕ, ◌+◌, ◌*◌}
use native.Mathlib.Omega.{arith}
use mathlib.Core.Path.{ap₂}
use Rattle.lines.proofs.Pairing.{fill_end, fill-room, fill-next, filled_at, first-digit, second-digit}
use Rattle.lines.proofs.Decoding.{pairs-length}
use Rattle.lines.proofs.hex.fill.Goals as goal

pub value-requires : goal.value-requires
value-requires c = first-digit _ _ _ _ _ c.loop-k.invariant (omega arith)

pub value-requires-in-loop-k : goal.value-requires-in-loop-k
value-requires-in-loop-k c = second-digit _ _ _ _ _ c.loop-k.invariant (omega arith)

pub bounds-buf-k : goal.bounds-buf-k
bounds-buf-k c = fill-room _ _ _ _ _ c.loop-k.invariant (omega arith)

pub loop-k-preserved : goal.loop-k-preserved
loop-k-preserved c =
    filled_at (fill-next _ _ _ _ _ c.loop-k.invariant (omega arith) _ (ap₂ (λ (x y : ℕ). x * 16 + y) c.value.ensures.0 c.value-in-loop-k.ensures.0)) (omega arith)

pub returns : goal.returns
returns c = fill_end _ _ _ _ _ c.loop-k.invariant (omega (arith, pairs-length _ c.requires.0))

use native.Mathlib.Omega.{arith}
use Prim.Native.Nat.{ℕ, ◌+◌, ◌-◌}
use mathlib.Core.Path.{◌≡◌, ap}
use lib.ListN.{take, drop}
use Rattle.memory.specs.Bytes.{span}
use Rattle.questions.proofs.room_at.Goals as goal

pub returns : goal.returns
unfolding span
returns c = let a = c.args in let e : (a.start + 8192) - a.start ≡ 8192 = omega arith in ap (λ (n : ℕ). take n (drop a.start a.mem.now)) e

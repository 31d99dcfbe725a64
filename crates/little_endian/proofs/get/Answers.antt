use mathlib.Core.Path.{refl}
use native.Mathlib.Omega.{arith}
use Rattle.little_endian.proofs.Numbers.{got, got-none, got-short}
use Rattle.little_endian.proofs.get.Goals as goal

pub returns-then-s-at : goal.returns-then-s-at
returns-then-s-at c = let a = c.args in got-none a.s.now a.at a.w _ refl (omega arith)

pub returns-then-left-n : goal.returns-then-left-n
returns-then-left-n c = let a = c.args in got-short a.s.now a.at a.w _ c.min-n.ensures _ _ refl c.if-left-n.true c.read_each.ensures.0 c.read_each.ensures.1

pub returns : goal.returns
returns c = let a = c.args in got a.s.now a.at a.w _ c.min-n.ensures _ c.read_within.ensures.0 c.read_within.ensures.1

use Prim.Native.Nat.{◌+◌, ◌-◌}
use native.Mathlib.Omega.{arith}
use lib.ListN.{length}
use borrow.Author.Tests.{not-true, eqb-false}
use Rattle.lookup.proofs.Ids.{ends-other}
use Rattle.lookup.proofs.ends_otherwise.Goals as goal

pub returns-then-end-mem : goal.returns-then-end-mem
returns-then-end-mem c t =
    let a = c.args in
    let k = c.if-end-mem.true.0 in
    ends-other a.mem.now a.id.now a.at (a.at + length a.id.now) (length a.id.now - 1) (omega arith) (omega arith) (eqb-false _ _ (not-true _ t))

use native.Mathlib.Omega.{arith}
use Rattle.lookup.proofs.Heads.{counts, last_is_lem}
use Rattle.lookup.proofs.head.Goals as goal

pub returns : goal.returns
returns c =
    let a = c.args in
    let w = c.set.ensures in
    (counts a.n a.time _ w, last_is_lem a.n a.time _ w (omega arith))

use mathlib.Core.Path.{refl}
use native.Mathlib.Omega.{arith}
use lib.ListN.{replicate}
use Rattle.patch.proofs.Written.{state-written}
use Rattle.patch.proofs.state.Goals as goal

pub returns : goal.returns
returns c =
    let a = c.args in
    state-written (replicate 9 0) _ a.s _ a.time refl c.state_code.ensures (omega arith) (c.set.ensures.written (omega arith))

use mathlib.Core.Path.{refl}
use native.Mathlib.Omega.{arith}
use lib.ListN.{take, replicate}
use Rattle.patch.proofs.Written.{lane-written, cut}
use Rattle.patch.proofs.lane.Goals as goal

pub returns : goal.returns
returns c =
    let a = c.args in
    lane-written (replicate 57 0) _ _ (take 48 a.payload.now) a.time refl (cut 48 a.payload.now) (omega arith) (c.set.ensures.written (omega arith)) c.write_text.ensures

use mathlib.Core.Path.{refl}
use native.Mathlib.Omega.{arith}
use lib.ListN.{take, length-set, replicate}
use Rattle.patch.proofs.Written.{new-written, cut}
use Rattle.patch.proofs.new_device.Goals as goal

pub returns : goal.returns
returns c =
    let a = c.args in
    new-written (replicate 404 0) _ _ (take 32 a.id.now) a.s _ a.time refl (cut 32 a.id.now) c.state_code.ensures (omega arith) c.write_text.ensures (c.set.ensures.written (simp length-set (omega arith)))

use Prim.Native.Nat.{◌+◌}
use native.Mathlib.Omega.{arith}
use mathlib.Core.Path.{◌∙◌}
use lib.ListN.{set, take}
use lib.Seq.{length-take-le}
use Rattle.patch.proofs.Written.{text-written, part-put}
use Rattle.patch.proofs.write_text.Goals as goal

pub returns : goal.returns
returns c =
    let a = c.args in
    let n = c.min-n.result in
    text-written a.d.now _ a.s.now a.at _ a.most c.min-n.ensures (omega arith)
    (part-put (set a.d.now a.at n) _ (take n a.s.now) (a.at + 1) _ c.copy_from_slice.ensures.after (length-take-le n a.s.now (omega (arith, c.min-n.ensures)) ∙ omega arith))

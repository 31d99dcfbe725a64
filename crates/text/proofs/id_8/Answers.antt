use native.Mathlib.Omega.{arith}
use mathlib.Core.Path.{refl}
use Rattle.text.proofs.Ids.{id-one}
use Rattle.text.proofs.Each.{each_none, decides-true, decides-both, decides_to}
use Rattle.text.proofs.id_8.Goals as goal

pub loop-k-init : goal.loop-k-init
loop-k-init c = decides-true (each_none _ (omega arith))

pub loop-k-preserved : goal.loop-k-preserved
loop-k-preserved c =
    decides-both _ _ c.loop-k.invariant (id-one c.args.s.now c.loop-k.k _ refl (omega arith) c.id_byte-all.ensures) (omega arith) (omega arith) (omega arith) (omega arith) (omega arith)

pub returns : goal.returns
returns c = decides_to c.loop-k.invariant (omega arith)

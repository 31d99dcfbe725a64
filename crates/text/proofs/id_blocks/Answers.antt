use native.Mathlib.Omega.{arith}
use Rattle.text.proofs.Each.{each_none, each_to, each_then, decides-rest, decides-fails}
use Rattle.text.proofs.id_blocks.Goals as goal

pub loop-k-init : goal.loop-k-init
loop-k-init c = each_to (omega arith) (each_none _ (omega arith))

pub returns-then-not-id_8 : goal.returns-then-not-id_8
returns-then-not-id_8 c = decides-fails c.id_8.ensures c.if-not-id_8.true (omega arith) (omega arith) (omega arith)

pub loop-k-preserved : goal.loop-k-preserved
loop-k-preserved c = each_then (each_to (omega arith) (c.id_8.ensures.yes c.if-not-id_8.false)) c.loop-k.invariant

pub returns : goal.returns
returns c = decides-rest c.id_8-2.ensures (omega arith) (omega arith) (omega arith) (omega arith) c.loop-k.invariant

use native.Mathlib.Omega.{arith}
use Rattle.device.proofs.Texts.{text_in}
use Rattle.device.proofs.text_at.Goals as goal

pub returns : goal.returns
returns c =
    let a = c.args in
    text_in a.room.now a.at a.most _ _ _ _ c.from.ensures c.min-n.ensures (omega arith) (omega arith)

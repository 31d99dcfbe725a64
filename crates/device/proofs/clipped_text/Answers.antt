use mathlib.Core.Path.{◌∙◌}
use Rattle.device.proofs.Texts.{text_in}
use Rattle.device.proofs.clipped_text.Goals as goal

pub returns : goal.returns
returns c =
    let a = c.args in
    text_in a.room.now a.at a.most _ _ _ _ (c.from.ensures ∙ c.byte.ensures) c.min-n.ensures c.min.ensures c.min-2.ensures

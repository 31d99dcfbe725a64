use mathlib.Core.Path.{refl}
use Rattle.imprint.proofs.Fields.{texted-half, texted-whole}
use Rattle.imprint.proofs.put_escaped.Goals as goal

pub returns-in-Err : goal.returns-in-Err
returns-in-Err c = texted-half _ _ c.decode_at.ensures c.in-Err.is c.put_text.ensures

pub returns-in-Ok : goal.returns-in-Ok
returns-in-Ok c = texted-whole _ _ c.decode_at.ensures c.in-Ok.is refl c.requires.1 c.slice.ensures c.put_text-in-Ok.ensures

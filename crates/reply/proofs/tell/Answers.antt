use mathlib.Core.Path.{refl}
use Rattle.reply.proofs.Out.{told}
use Rattle.reply.proofs.tell.Goals as goal

pub returns : goal.returns
returns c = told c.args.vs.now c.args.out.now _ _ c.min-n.ensures c.copy_from_slice.ensures.after

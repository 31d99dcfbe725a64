use Prim.Native.Nat.{◌+◌}
use native.Mathlib.Omega.{arith}
use mathlib.Core.Path.{◌∙◌}
use Rattle.memory.specs.Layout.{order_at}
use Rattle.lookup.proofs.Ranks.{id_is}
use Rattle.lookup.proofs.id_at.Goals as goal

pub id_from-requires : goal.id_from-requires
id_from-requires c = omega (arith, c.room_start.ensures, c.type_inv.mem (order_at + c.args.i))

pub returns : goal.returns
returns c = c.id_from.ensures ∙ id_is _ _ _ c.requires c.room_start.ensures

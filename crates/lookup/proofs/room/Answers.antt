use mathlib.Core.Path.{◌∙◌}
use native.Mathlib.Omega.{arith}
use Rattle.lookup.proofs.Ranks.{room_is, room-none}
use Rattle.lookup.proofs.room.Goals as goal

pub returns-then-slots-i : goal.returns-then-slots-i
returns-then-slots-i c = room-none _ _ (omega (arith, c.slots.ensures.0))

pub returns : goal.returns
returns c = c.cut.ensures ∙ room_is _ _ _ (omega (arith, c.slots.ensures.0)) c.room_start.ensures

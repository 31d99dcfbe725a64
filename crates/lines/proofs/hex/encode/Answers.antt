use mathlib.Core.Path.{sym, ◌∙◌}
use borrow.Author.Tests.{eqb-true, eqb-false, leb-true, leb-false}
use Rattle.lines.proofs.Spelling.{hex-none, hex_no-room, hex-room}
use Rattle.lines.proofs.hex.encode.Goals as goal

pub returns-then-is_empty : goal.returns-then-is_empty
returns-then-is_empty c = hex-none _ _ _ (eqb-true _ _ (sym c.is_empty.ensures ∙ c.if-is_empty.true)) c.put.ensures

pub returns-then-not-has_room : goal.returns-then-not-has_room
returns-then-not-has_room c = hex_no-room _ _ _ (eqb-false _ _ (sym c.is_empty.ensures ∙ c.if-is_empty.false)) (leb-false _ _ (sym c.has_room.ensures ∙ c.if-not-has_room.true))

pub returns : goal.returns
returns c = hex-room _ _ _ (eqb-false _ _ (sym c.is_empty.ensures ∙ c.if-is_empty.false)) (leb-true _ _ (sym c.has_room.ensures ∙ c.if-not-has_room.false)) c.spell.ensures

use native.Mathlib.Omega.{arith}
use Rattle.lines.proofs.Spelling.{spell-end, spell_next, spelled_at}
use Rattle.lines.proofs.hex.spell.Goals as goal

pub loop-i-preserved : goal.loop-i-preserved
loop-i-preserved c = spelled_at (spell_next _ _ _ _ _ _ c.loop-i.invariant (omega arith) c.requires _ _ c.digit.ensures c.digit-in-loop-i.ensures) (omega arith)

pub returns : goal.returns
returns c = spell-end _ _ _ _ _ _ c.loop-i.invariant (omega arith)

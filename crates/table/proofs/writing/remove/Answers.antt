use native.Mathlib.Omega.{arith}
use mathlib.Core.Path.{sym, ◌∙◌}
use Rattle.table.proofs.Obeying.{removed, removed-none}
use Rattle.table.proofs.writing.remove.Goals as goal

pub returns-then-n-eq0 : goal.returns-then-n-eq0
returns-then-n-eq0 c = removed-none _ _ _ _ _ (sym c.if-n-eq0.true ∙ c.count-n.ensures)

pub returns : goal.returns
returns c = removed _ _ c.count-n.ensures _ _ _ _ _ (omega (arith, c.if-n-eq0.false)) c.write.ensures

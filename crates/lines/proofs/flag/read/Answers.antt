use mathlib.Core.Path.{sym, ◌∙◌}
use Rattle.lines.proofs.Flagging.{flag_one, flag-zero, flag-none}
use Rattle.lines.proofs.flag.read.Goals as goal

pub returns-then-same : goal.returns-then-same
returns-then-same c = flag_one _ (sym c.if-same.true ∙ c.same.ensures)

pub returns-then-same-2 : goal.returns-then-same-2
returns-then-same-2 c = flag-zero _ (sym c.if-same.false ∙ c.same.ensures) (sym c.if-same-2.true ∙ c.same-2.ensures)

pub returns : goal.returns
returns c = flag-none _ (sym c.if-same.false ∙ c.same.ensures) (sym c.if-same-2.false ∙ c.same-2.ensures)

use mathlib.Core.Path.{sym, ◌∙◌}
use Rattle.journal.proofs.Empty.{opens_facts, opened, opened-not}
use Rattle.journal.proofs.open.Goals as goal

pub returns-then-not-openable : goal.returns-then-not-openable
returns-then-not-openable c = opened-not _ _ _ _ (sym c.if-not-openable.true ∙ c.openable.ensures)

pub returns : goal.returns
returns c =
    opened _ _ _ _ _ (opens_facts _ _ _ _ (sym c.openable.ensures ∙ c.if-not-openable.false)) c.lay.ensures (sym c.if-not-openable.false ∙ c.openable.ensures)

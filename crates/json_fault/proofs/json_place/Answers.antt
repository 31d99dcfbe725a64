use mathlib.Core.Path.{sym, ◌∙◌}
use Rattle.json_fault.proofs.Laws.{stopped}
use Rattle.json_fault.proofs.json_place.Goals as goal

pub returns-in-Err : goal.returns-in-Err
returns-in-Err c = stopped _ _ (sym c.mark.ensures.is ∙ c.in-Err.is)

pub returns-in-Ok : goal.returns-in-Ok
returns-in-Ok c = stopped _ _ (sym c.mark.ensures.is ∙ c.in-Ok.is)

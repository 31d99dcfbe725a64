use Rattle.json_text.proofs.Ends.{none_if, some_if, element_if}
use Rattle.json_text.proofs.element_by.Goals as goal

pub returns-in_default : goal.returns-in_default
returns-in_default c = element_if _ _ (none_if _ _ c.in_default.ensures)

pub returns : goal.returns
returns c = element_if _ _ (some_if _ _ c.in-Ok.ensures c.next.ensures)

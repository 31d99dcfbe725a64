use Rattle.json_text.proofs.Ends.{no-key_if, member_if}
use Rattle.json_text.proofs.member_by.Goals as goal

pub returns-in_default : goal.returns-in_default
returns-in_default c = no-key_if _ _ c.in_default.ensures

pub returns : goal.returns
returns c = member_if _ _ _ c.in-Ok.ensures c.element_by.ensures

use Rattle.json_text.proofs.Ends.{told-plain}
use Rattle.json_text.proofs.is_plain_by.Goals as goal

pub returns-then-is_some : goal.returns-then-is_some
returns-then-is_some c = told-plain c.end_in.ensures c.is_some.ensures c.if-is_some.true

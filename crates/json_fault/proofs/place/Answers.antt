use Rattle.json_fault.proofs.Laws.{by_first}
use Rattle.json_fault.proofs.place.Goals as goal

pub returns : goal.returns
returns c = by_first _ _ c.slice-t.ensures c.json_place.ensures c.utf8_place.ensures c.min.ensures

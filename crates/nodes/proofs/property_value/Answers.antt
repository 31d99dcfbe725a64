use Rattle.faults.proofs.Laws.{is-told}
use Rattle.nodes.proofs.Nodes.{judged-first, judged-again}
use Rattle.nodes.proofs.property_value.Goals as goal

pub returns-then-first : goal.returns-then-first
returns-then-first c = λ h. judged-first _ _ _ c.if-first.true (c.property_at.ensures h)

pub returns : goal.returns
returns c = λ h. judged-again _ _ _ c.if-first.false (is-told c.at.ensures)

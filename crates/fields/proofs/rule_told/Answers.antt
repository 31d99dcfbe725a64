use Rattle.faults.proofs.Laws.{told-as, rule-holds, rule-broken}
use Rattle.fields.proofs.rule_told.Goals as goal

pub returns-then-holds : goal.returns-then-holds
returns-then-holds c = rule-holds _ _ c.if-holds.true

pub returns : goal.returns
returns c = told-as c.at.ensures (rule-broken _ _ c.if-holds.false)

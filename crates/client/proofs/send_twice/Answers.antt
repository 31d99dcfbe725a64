use Rattle.client.proofs.Again.{refused-right, sent-right}
use Rattle.client.proofs.send_twice.Goals as goal

pub returns-in_default : goal.returns-in_default
returns-in_default c = refused-right _ _ _ _ c.open-opened.result c.open-opened.ensures c.in_default.not-Ok

pub returns : goal.returns
returns c =
    sent-right _ _ _ _ _ _ _ _ _ _ _ _ c.open-opened.ensures c.in-Ok.is c.message-first.ensures c.step_back.ensures c.message-again.ensures c.count-count.ensures

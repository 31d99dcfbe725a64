use Rattle.faults.proofs.Laws.{told-as}
use Rattle.fields.proofs.Decoded.{id-sent, id-plain-not}
use Rattle.fields.proofs.id_name_told.Goals as goal

pub returns-then-is_id : goal.returns-then-is_id
returns-then-is_id c = λ h. id-sent _ _ (c.raw_bytes_by.ensures h) c.is_id.ensures c.if-is_id.true

pub returns-then-is_plain_by : goal.returns-then-is_plain_by
returns-then-is_plain_by c = λ h. told-as c.at.ensures (id-plain-not _ _ (c.raw_bytes_by.ensures h) c.is_id.ensures c.if-is_id.false (c.is_plain_by.ensures h) c.if-is_plain_by.true)

pub returns : goal.returns
returns c = λ h. c.escaped_id_told.ensures

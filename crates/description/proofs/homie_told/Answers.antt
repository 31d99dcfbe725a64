use Rattle.faults.proofs.Laws.{told-as}
use Rattle.description.proofs.Device.{homie-missing, homie_kind, homie_as, homie-right, homie_wrong}
use Rattle.description.proofs.homie_told.Goals as goal

pub returns-in_default : goal.returns-in_default
returns-in_default c = λ h. told-as c.at.ensures (homie-missing _ _ c.in_default.is (c.close_of.ensures h))

pub returns-then-not-is_string : goal.returns-then-not-is_string
returns-then-not-is_string c = λ h. told-as c.at-then-not-is_string.ensures (homie_kind _ _ c.in-Some.is c.is_string.ensures c.if-not-is_string.true)

pub returns-then-is_homie : goal.returns-then-is_homie
returns-then-is_homie c =
    λ h. homie-right _ _ c.in-Some.is c.is_string.ensures c.if-not-is_string.false (c.raw_bytes_by.ensures h) c.is_homie.ensures c.if-is_homie.true

pub returns-then-is_plain_by : goal.returns-then-is_plain_by
returns-then-is_plain_by c =
    λ h. told-as c.at-then-is_plain_by.ensures (homie_wrong _ _ c.in-Some.is c.is_string.ensures c.if-not-is_string.false (c.raw_bytes_by.ensures h) c.is_homie.ensures c.if-is_homie.false (c.is_plain_by.ensures h) c.if-is_plain_by.true)

pub returns : goal.returns
returns c = λ h. homie_as _ _ c.in-Some.is c.is_string.ensures c.if-not-is_string.false c.escaped_homie_told.ensures

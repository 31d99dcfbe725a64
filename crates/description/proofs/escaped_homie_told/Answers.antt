use native.Mathlib.Omega.{arith}
use Rattle.description.specs.Description.{homie_rule}
use Rattle.faults.proofs.Laws.{told-as}
use Rattle.description.proofs.Device.{half-told, too_long, long-told, whole-told, homie-long, homie_yes, homie_no}
use Rattle.description.proofs.escaped_homie_told.Goals as goal

pub returns-then-n-gt8 : goal.returns-then-n-gt8
returns-then-n-gt8 c =
    told-as c.at-then-n-gt8.ensures (long-told _ _ c.decode_at.ensures (homie_rule _) c.in-Ok.is (homie-long _ _ (too_long _ _ c.decode_at.ensures c.in-Ok.is c.if-n-gt8.true)))

pub returns-then-is_homie : goal.returns-then-is_homie
returns-then-is_homie c =
    whole-told _ _ c.decode_at.ensures (homie_rule _) c.in-Ok.is (omega (arith, c.if-n-gt8.false)) c.slice.ensures (homie_yes _ _ c.is_homie.ensures c.if-is_homie.true)

pub returns-in-Err : goal.returns-in-Err
returns-in-Err c = told-as c.at.ensures (half-told _ _ c.decode_at.ensures (homie_rule _) c.in-Err.is)

pub returns-else-is_homie : goal.returns-else-is_homie
returns-else-is_homie c =
    told-as c.at-in-Ok.ensures (whole-told _ _ c.decode_at.ensures (homie_rule _) c.in-Ok.is (omega (arith, c.if-n-gt8.false)) c.slice.ensures (homie_no _ _ c.is_homie.ensures c.if-is_homie.false))

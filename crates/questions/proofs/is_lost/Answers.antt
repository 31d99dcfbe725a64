use Rattle.questions.proofs.Effective.{not_lost, is_lost_lem}
use native.Mathlib.Omega.{arith}
use Rattle.questions.proofs.is_lost.Goals as goal

pub locate-requires : goal.locate-requires
locate-requires c = c.requires

pub room_at-requires : goal.room_at-requires
room_at-requires c = omega (arith, c.in-Ok.ensures.inside)

pub returns-in-Err : goal.returns-in-Err
returns-in-Err c = let a = c.args in not_lost a.mem.now a.id.now _ c.requires c.in-Err.ensures

pub returns-in-Ok : goal.returns-in-Ok
returns-in-Ok c =
    let a = c.args in is_lost_lem a.mem.now a.id.now c.in-Ok.start c.room_at.result.now c.is_lost_in.result c.in-Ok.ensures c.room_at.ensures c.is_lost_in.ensures

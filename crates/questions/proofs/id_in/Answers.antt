use native.Mathlib.Omega.{arith}
use Rattle.questions.proofs.Rooms.{in-room}
use Rattle.questions.proofs.Shows.{id-shown}
use Rattle.questions.proofs.id_in.Goals as goal

pub room_at-requires : goal.room_at-requires
room_at-requires c = c.requires

pub moved-requires : goal.moved-requires
moved-requires c =
    let a = c.args in let w = in-room a.mem.now c.room_at.result.now a.start c.requires c.room_at.ensures c.id-p.result c.id-p.ensures.within in (w.ordered, omega (arith, w.inside, c.requires))

pub returns : goal.returns
returns c =
    let a = c.args in id-shown a.mem.now c.room_at.result.now a.start c.id-p.result _ c.requires c.room_at.ensures c.id-p.ensures c.moved.ensures

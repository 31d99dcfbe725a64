use native.Mathlib.Omega.{arith}
use mathlib.Core.Path.{refl}
use Rattle.std.proofs.lemmas.Result.{err_from_is_err_and}
use Rattle.rules.specs.Questions.{ask_root, reply}
use Rattle.questions.specs.Meaning.{says_relative}
use Rattle.questions.proofs.Answers.{refusal, answer_in}
use Rattle.memory.specs.Bytes.{span}
use Rattle.memory.specs.Layout.{room_size}
use Rattle.questions.proofs.Rooms.{text_in-room}
use Rattle.questions.proofs.Shows.{text_says}
use Rattle.questions.proofs.root_of.Goals as goal

pub room_at-room-requires : goal.room_at-room-requires
room_at-room-requires c = omega (arith, c.in_ok-start.ensures.inside)

pub relative_in-requires : goal.relative_in-requires
relative_in-requires c =
    let r = c.in_ok-start.ensures.inside in (omega (arith, r), text_in-room c.args.mem.now c.room_at-room.result.now c.in_ok-start.start r c.room_at-room.ensures c.root.result c.root.ensures.within)

pub returns-in_err-start : goal.returns-in_err-start
unfolding reply says_relative
returns-in_err-start c =
    let a = c.args in let p = err_from_is_err_and c.from_residual.result c.from_residual.ensures.1 in rw (p.1, p.2) (record { did = refusal (ask_root a.id.now) a.mem.now a.id.now _ refl _ c.in_err-start.ensures; places = tt })

pub returns : goal.returns
unfolding reply
returns c =
    let a = c.args in let t = text_says c.room_at-room.result.now (span a.mem.now c.in_ok-start.start room_size) c.root.result _ _ c.room_at-room.ensures c.root.ensures.says c.relative_in.ensures.says in record { did = answer_in (ask_root a.id.now) a.mem.now a.id.now _ refl c.in_ok-start.start c.room_at-room.result.now _ c.in_ok-start.ensures c.room_at-room.ensures t; places = c.relative_in.ensures.places }

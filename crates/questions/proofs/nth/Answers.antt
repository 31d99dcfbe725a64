use native.Mathlib.Omega.{arith}
use mathlib.Core.Path.{◌∙◌}
use Rattle.rules.specs.Questions.{ask_nth}
use Rattle.questions.specs.Meaning.{says_id}
use Rattle.questions.proofs.Answers.{unsound-asked, nth-none, nth-room, nth-says}
use Rattle.questions.proofs.nth.Goals as goal

pub returns-then-not-sound : goal.returns-then-not-sound
unfolding says_id
returns-then-not-sound c = record { did = unsound-asked (ask_nth c.args.i) c.args.mem.now (c.sound.ensures.1 c.if-not-sound.true); places = tt }

pub returns-then-i-devices : goal.returns-then-i-devices
unfolding says_id
returns-then-i-devices c =
    record { did = nth-none c.args.mem.now c.args.i c.from-devices.result (c.sound.ensures.0 c.if-not-sound.false) (c.from-devices.ensures ∙ c.count.ensures) (omega (arith, c.if-i-devices.true)); places = tt }

pub id_in-requires : goal.id_in-requires
id_in-requires c =
    (nth-room c.args.mem.now c.args.i c.from-devices.result c.room_start-start.result (c.sound.ensures.0 c.if-not-sound.false) (c.from-devices.ensures ∙ c.count.ensures) (omega (arith, c.if-i-devices.false)) c.room_start-start.ensures).inside

pub returns : goal.returns
returns c =
    let r = nth-room c.args.mem.now c.args.i c.from-devices.result c.room_start-start.result (c.sound.ensures.0 c.if-not-sound.false) (c.from-devices.ensures ∙ c.count.ensures) (omega (arith, c.if-i-devices.false)) c.room_start-start.ensures in record { did = nth-says c.args.mem.now c.args.i c.room_start-start.result _ r c.id_in.ensures.says; places = c.id_in.ensures.places }

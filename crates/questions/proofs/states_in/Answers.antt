use Rattle.memory.specs.Bytes.{span}
use Rattle.memory.specs.Layout.{room_size}
use Rattle.lookup.specs.Meaning.{means}
use Rattle.questions.proofs.Effective.{states-says}
use Rattle.questions.proofs.states_in.Goals as goal

pub room_at-room-requires : goal.room_at-room-requires
room_at-room-requires c = c.requires.1

pub effective_in-effective-requires : goal.effective_in-effective-requires
effective_in-effective-requires c = c.requires.0

pub returns : goal.returns
returns c =
    let a = c.args in states-says (means a.mem.now).now.devices c.room_at-room.result.now (span a.mem.now a.start room_size) _ _ _ c.room_at-room.ensures c.state-own.ensures c.effective_in-effective.ensures c.time-time.ensures

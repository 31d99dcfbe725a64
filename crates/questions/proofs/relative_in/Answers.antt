use native.Mathlib.Omega.{arith}
use Rattle.memory.specs.Bytes.{span}
use Rattle.memory.specs.Layout.{room_size}
use Rattle.questions.proofs.Rooms.{inside_at}
use Rattle.questions.proofs.Shows.{no_text, a-text}
use Rattle.questions.proofs.relative_in.Goals as goal

pub moved-requires : goal.moved-requires
moved-requires c =
    let a = c.args in let w = inside_at room_size a.t c.in_ok-p.p c.requires.1 c.in_ok-p.was in (w.ordered, omega (arith, w.inside, c.requires.0))

pub returns-in_err-p : goal.returns-in_err-p
returns-in_err-p c =
    let a = c.args in rw c.from_residual.ensures (no_text a.mem.now (span a.mem.now a.start room_size) a.t c.in_err-p.was)

pub returns : goal.returns
returns c =
    let a = c.args in a-text a.mem.now a.start a.t c.in_ok-p.p c.moved.result c.requires.0 c.requires.1 c.in_ok-p.was c.moved.ensures

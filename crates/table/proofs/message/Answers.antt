use Rattle.std.proofs.lemmas.Result.{err_from_is_err_and}
use Rattle.lookup.proofs.Theorems.{unsound}
use Rattle.table.proofs.Obeying.{carried, not_carried}
use Rattle.table.proofs.message.Goals as goal

pub returns-then-not-sound : goal.returns-then-not-sound
returns-then-not-sound c = unsound _ _ (c.sound.ensures.1 c.if-not-sound.true)

pub returns-in_err-v : goal.returns-in_err-v
returns-in_err-v c =
    let p = err_from_is_err_and c.from_residual.result c.from_residual.ensures.1 in
    rw (p.1, p.2) (not_carried _ _ _ (c.sound.ensures.0 c.if-not-sound.false) c.judge.ensures _ c.in_err-v.was)

pub returns-in-Time : goal.returns-in-Time
returns-in-Time c = carried _ _ _ (c.sound.ensures.0 c.if-not-sound.false) c.judge.ensures _ _ _ _ c.in_ok-v.was c.in-Time.is (c.keep.ensures _ _ _)

pub returns-in-Remove : goal.returns-in-Remove
returns-in-Remove c = carried _ _ _ (c.sound.ensures.0 c.if-not-sound.false) c.judge.ensures _ _ _ _ c.in_ok-v.was c.in-Remove.is (c.remove.ensures _ _ _)

pub returns-in-State : goal.returns-in-State
returns-in-State c = carried _ _ _ (c.sound.ensures.0 c.if-not-sound.false) c.judge.ensures _ _ _ _ c.in_ok-v.was c.in-State.is (c.set_state.ensures _ _ _)

pub returns-in-Create : goal.returns-in-Create
returns-in-Create c = carried _ _ _ (c.sound.ensures.0 c.if-not-sound.false) c.judge.ensures _ _ _ _ c.in_ok-v.was c.in-Create.is (c.create.ensures _ _ _ _ c.slice-own.ensures)

pub returns-in-Undescribe : goal.returns-in-Undescribe
returns-in-Undescribe c = carried _ _ _ (c.sound.ensures.0 c.if-not-sound.false) c.judge.ensures _ _ _ _ c.in_ok-v.was c.in-Undescribe.is (c.undescribe.ensures _ _ _)

pub returns-in-Describe : goal.returns-in-Describe
returns-in-Describe c =
    carried _ _ _ (c.sound.ensures.0 c.if-not-sound.false) c.judge.ensures _ _ _ _ c.in_ok-v.was c.in-Describe.is (c.describe.ensures _ _ _ c.slice-own-in-Describe.ensures)

pub returns-in-Lane : goal.returns-in-Lane
returns-in-Lane c = carried _ _ _ (c.sound.ensures.0 c.if-not-sound.false) c.judge.ensures _ _ _ _ c.in_ok-v.was c.in-Lane.is (c.fill.ensures _ _)

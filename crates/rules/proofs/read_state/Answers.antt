use mathlib.Core.Path.{refl}
use Rattle.rules.specs.States.{state_worded}
use Rattle.rules.proofs.Choices.{told, pick_yes, pick_no}
use Rattle.rules.proofs.read_state.Goals as goal

pub returns-then-same : goal.returns-then-same
unfolding state_worded
returns-then-same c = pick_yes _ (told c.same.ensures c.if-same.true)

pub returns-then-same-2 : goal.returns-then-same-2
unfolding state_worded
returns-then-same-2 c = pick_no _ (told c.same.ensures c.if-same.false) (pick_yes _ (told c.same-2.ensures c.if-same-2.true))

pub returns-then-same-3 : goal.returns-then-same-3
unfolding state_worded
returns-then-same-3 c =
    pick_no _ (told c.same.ensures c.if-same.false) (pick_no _ (told c.same-2.ensures c.if-same-2.false) (pick_yes _ (told c.same-3.ensures c.if-same-3.true)))

pub returns-then-same-4 : goal.returns-then-same-4
unfolding state_worded
returns-then-same-4 c =
    pick_no _ (told c.same.ensures c.if-same.false) (pick_no _ (told c.same-2.ensures c.if-same-2.false) (pick_no _ (told c.same-3.ensures c.if-same-3.false) (pick_yes _ (told c.same-4.ensures c.if-same-4.true))))

pub returns-then-same-5 : goal.returns-then-same-5
unfolding state_worded
returns-then-same-5 c =
    pick_no _ (told c.same.ensures c.if-same.false) (pick_no _ (told c.same-2.ensures c.if-same-2.false) (pick_no _ (told c.same-3.ensures c.if-same-3.false) (pick_no _ (told c.same-4.ensures c.if-same-4.false) (pick_yes _ (told c.same-5.ensures c.if-same-5.true)))))

pub returns : goal.returns
unfolding state_worded
returns c =
    pick_no _ (told c.same.ensures c.if-same.false) (pick_no _ (told c.same-2.ensures c.if-same-2.false) (pick_no _ (told c.same-3.ensures c.if-same-3.false) (pick_no _ (told c.same-4.ensures c.if-same-4.false) (pick_no _ (told c.same-5.ensures c.if-same-5.false) (refl)))))

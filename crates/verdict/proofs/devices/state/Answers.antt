use mathlib.Core.Path.{refl, sym, ◌∙◌}
use borrow.Author.Tests.{eqb-true, eqb-false}
use native.Mathlib.Omega.{arith}
use Rattle.verdict.proofs.Found.{ranked, placed, devices_are}
use Rattle.verdict.proofs.States.{remove-unknown, remove_known, no_word, update, full, create}
use Rattle.verdict.proofs.devices.state.Goals as goal

pub returns-then-rank-n : goal.returns-then-rank-n
returns-then-rank-n c =
    λ time retained h. remove_known _ _ _ _ _ (ranked _ _ _ _ c.find-rank.ensures c.slice-id.ensures) (eqb-true _ _ (sym c.is_empty.ensures ∙ c.if-is_empty.true)) (omega (arith, c.count-n.ensures, c.if-rank-n.true))

pub returns-then-is_empty : goal.returns-then-is_empty
returns-then-is_empty c =
    λ time retained h. remove-unknown _ _ _ _ _ (ranked _ _ _ _ c.find-rank.ensures c.slice-id.ensures) (eqb-true _ _ (sym c.is_empty.ensures ∙ c.if-is_empty.true)) (omega (arith, c.count-n.ensures, c.if-rank-n.false))

pub returns-in_default : goal.returns-in_default
returns-in_default c =
    λ time retained h. no_word _ _ _ _ _ (ranked _ _ _ _ c.find-rank.ensures c.slice-id.ensures) (eqb-false _ _ (sym c.is_empty.ensures ∙ c.if-is_empty.false)) (sym c.in_default.is ∙ c.read_state.ensures)

pub returns-then-rank-n-2 : goal.returns-then-rank-n-2
returns-then-rank-n-2 c =
    λ time retained h. update _ _ _ _ _ (ranked _ _ _ _ c.find-rank.ensures c.slice-id.ensures) _ (eqb-false _ _ (sym c.is_empty.ensures ∙ c.if-is_empty.false)) (sym c.in-Some.is ∙ c.read_state.ensures) (omega (arith, c.count-n.ensures, c.if-rank-n-2.true))

pub returns-then-byte-n : goal.returns-then-byte-n
returns-then-byte-n c =
    λ time retained h. full _ _ _ _ _ (ranked _ _ _ _ c.find-rank.ensures c.slice-id.ensures) _ (eqb-false _ _ (sym c.is_empty.ensures ∙ c.if-is_empty.false)) (sym c.in-Some.is ∙ c.read_state.ensures) (omega (arith, c.count-n.ensures, c.if-rank-n-2.false)) (omega (arith, c.count-n.ensures, c.byte.ensures, c.if-byte-n.true, devices_are c.args.mem.now))

pub returns : goal.returns
returns c =
    λ time retained h. create _ _ _ _ _ (ranked _ _ _ _ c.find-rank.ensures c.slice-id.ensures) _ (eqb-false _ _ (sym c.is_empty.ensures ∙ c.if-is_empty.false)) (sym c.in-Some.is ∙ c.read_state.ensures) _ _ refl h (omega (arith, c.count-n.ensures, c.if-rank-n-2.false)) (omega (arith, c.count-n.ensures, c.byte.ensures, c.if-byte-n.false, devices_are c.args.mem.now)) (placed _ _ _ _ c.place_for.ensures c.slice-id.ensures)

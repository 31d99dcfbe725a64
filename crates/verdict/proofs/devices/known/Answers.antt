use native.Mathlib.Omega.{arith}
use Rattle.verdict.proofs.Found.{ranked, unknown, known}
use Rattle.verdict.proofs.devices.known.Goals as goal

pub returns-then-count-find : goal.returns-then-count-find
returns-then-count-find c = λ x. unknown _ _ _ (ranked _ _ _ _ c.find.ensures c.slice-id.ensures) _ _ (omega (arith, c.count.ensures, c.if-count-find.true))

pub returns : goal.returns
returns c = λ x. known _ _ _ (ranked _ _ _ _ c.find.ensures c.slice-id.ensures) _ _ (omega (arith, c.count.ensures, c.if-count-find.false))

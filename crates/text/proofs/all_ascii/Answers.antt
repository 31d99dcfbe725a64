use native.Mathlib.Omega.{arith}
use borrow.Author.Tests.{eqb-true}
use Rattle.text.proofs.Ascii.{ascii-block}
use Rattle.text.proofs.all_ascii.Goals as goal

pub returns : goal.returns
returns g c = let a = c.args in λ q. ascii-block _ a.s.now a.i _ (omega arith) (omega arith) (λ k. omega (arith, c.type_inv.s k)) c.get.ensures.0 (eqb-true _ _ q)

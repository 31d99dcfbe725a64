use native.Mathlib.Omega.{arith}
use Rattle.text.proofs.Steps.{low_e0, low_f0, low-other}
use Rattle.text.proofs.least.Goals as goal

pub returns-in-224 : goal.returns-in-224
returns-in-224 c = omega (arith, low_e0 c.args.b (omega arith))

pub returns-in-240 : goal.returns-in-240
returns-in-240 c = omega (arith, low_f0 c.args.b (omega arith))

pub returns-in_default : goal.returns-in_default
returns-in_default c = omega (arith, low-other c.args.b (λ e. omega arith) (λ e. omega arith))

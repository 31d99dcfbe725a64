use native.Mathlib.Omega.{arith}
use Rattle.text.proofs.Steps.{high_ed, high_f4, high-other}
use Rattle.text.proofs.most.Goals as goal

pub returns-in-237 : goal.returns-in-237
returns-in-237 c = omega (arith, high_ed c.args.b (omega arith))

pub returns-in-244 : goal.returns-in-244
returns-in-244 c = omega (arith, high_f4 c.args.b (omega arith))

pub returns-in_default : goal.returns-in_default
returns-in_default c = omega (arith, high-other c.args.b (λ e. omega arith) (λ e. omega arith))

use native.Mathlib.Omega.{arith}
use Rattle.json_text.proofs.Values.{colon-inside, colon-there, colon-missing}
use Rattle.json_text.proofs.after_name.Goals as goal

pub overflow_add-j : goal.overflow_add-j
overflow_add-j c = let h = colon-inside c.args.s.now c.skip-j.ensures c.peek.ensures c.if-peek-eq58.true in omega arith

pub returns-then-peek-eq58 : goal.returns-then-peek-eq58
returns-then-peek-eq58 c = colon-there _ c.skip-j.ensures c.peek.ensures c.if-peek-eq58.true c.skip.ensures

pub returns-else-peek-eq58 : goal.returns-else-peek-eq58
returns-else-peek-eq58 c = colon-missing _ c.skip-j.ensures c.peek.ensures c.if-peek-eq58.false

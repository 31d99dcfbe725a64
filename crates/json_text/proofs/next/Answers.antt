use native.Mathlib.Omega.{arith}
use Rattle.json_text.proofs.Members.{comma-inside, next_comma, next-none}
use Rattle.json_text.proofs.next.Goals as goal

pub overflow_add-j : goal.overflow_add-j
overflow_add-j c = let h = comma-inside c.args.s.now _ _ c.skip-j.ensures c.peek.ensures c.if-peek-eq44.true in omega arith

pub returns-then-peek-eq44 : goal.returns-then-peek-eq44
returns-then-peek-eq44 c = next_comma _ _ _ c.skip-j.ensures c.peek.ensures c.if-peek-eq44.true c.skip.ensures

pub returns-else-peek-eq44 : goal.returns-else-peek-eq44
returns-else-peek-eq44 c = next-none _ _ _ c.skip-j.ensures c.peek.ensures c.if-peek-eq44.false

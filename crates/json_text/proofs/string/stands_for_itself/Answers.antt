use native.Mathlib.Omega.{arith}
use Rattle.json_text.proofs.Strings.{stands_yes, stands-quote, stands-backslash, stands-low, ne_lt}
use Rattle.json_text.proofs.string.stands_for_itself.Goals as goal

pub returns-then-b-gt92 : goal.returns-then-b-gt92
returns-then-b-gt92 c = let h = c.if-b-gt92.true in stands_yes c.args.b (omega arith) (omega (arith, c.well_formed.0)) (λ q. omega arith) (λ q. omega arith)

pub returns-then-b-eq92 : goal.returns-then-b-eq92
returns-then-b-eq92 c = stands-backslash _ c.if-b-eq92.true

pub returns-then-b-gt34 : goal.returns-then-b-gt34
returns-then-b-gt34 c = let h = c.if-b-gt34.true in stands_yes c.args.b (omega arith) (omega (arith, c.well_formed.0)) (λ q. omega arith) c.if-b-eq92.false

pub returns-then-b-eq34 : goal.returns-then-b-eq34
returns-then-b-eq34 c = stands-quote _ c.if-b-eq34.true

pub returns : goal.returns
returns c = stands-low c.args.b (ne_lt c.if-b-gt34.false c.if-b-eq34.false)

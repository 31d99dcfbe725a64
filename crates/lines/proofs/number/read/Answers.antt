use native.Mathlib.Omega.{arith}
use mathlib.Core.Logic.{⊎_elim}
use mathlib.Core.Path.{sym, ◌∙◌}
use borrow.Author.Tests.{eqb-true, eqb-false}
use Rattle.lines.proofs.Numerals.{no-digits, start, end, low, high, one-over, one_more}
use Rattle.lines.proofs.number.read.Goals as goal

pub returns-then-is_empty : goal.returns-then-is_empty
returns-then-is_empty c = no-digits _ (eqb-true _ _ (sym c.is_empty.ensures ∙ c.if-is_empty.true))

pub loop-b-init : goal.loop-b-init
loop-b-init c = start _ (eqb-false _ _ (sym c.is_empty.ensures ∙ c.if-is_empty.false))

pub returns-then-not-is_ascii_digit : goal.returns-then-not-is_ascii_digit
returns-then-not-is_ascii_digit c = ⊎_elim (λ l. low c.loop-b.invariant (omega arith) l) (λ u. high c.loop-b.invariant (omega arith) u) c.if-not-is_ascii_digit.ensures.cases

pub returns-then-a-v : goal.returns-then-a-v
returns-then-a-v c =
    one-over c.loop-b.invariant (omega arith) (omega (arith, c.if-not-is_ascii_digit.ensures.cases)) (omega (arith, c.if-not-is_ascii_digit.ensures.cases)) c.from-v.ensures c.if-a-v.true

pub loop-b-preserved : goal.loop-b-preserved
loop-b-preserved c = one_more c.loop-b.invariant (omega arith) (omega (arith, c.if-not-is_ascii_digit.ensures.cases)) (omega (arith, c.if-not-is_ascii_digit.ensures.cases)) c.from-v.ensures (omega arith)

pub returns : goal.returns
returns c = end c.loop-b.invariant (omega arith)

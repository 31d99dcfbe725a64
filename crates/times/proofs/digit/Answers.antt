use native.Mathlib.Omega.{arith}
use mathlib.Core.Path.{sym, ◌∙◌}
use Rattle.times.proofs.Bytes.{digit-past, digit-got, digit-other}
use Rattle.times.proofs.digit.Goals as goal

pub returns-in_err-b : goal.returns-in_err-b
returns-in_err-b c = c.from_residual.ensures ∙ digit-past c.args.s.now c.args.at (omega (arith, c.in_err-b.ensures.lookup))

pub returns-then-is_ascii_digit : goal.returns-then-is_ascii_digit
returns-then-is_ascii_digit c = digit-got _ (c.in_ok-b.ensures.lookup.3.1 256) (sym c.if-is_ascii_digit.ensures.value)

pub returns-else-is_ascii_digit : goal.returns-else-is_ascii_digit
returns-else-is_ascii_digit c = digit-other _ (c.in_ok-b.ensures.lookup.3.1 256) (sym c.if-is_ascii_digit.ensures.value)

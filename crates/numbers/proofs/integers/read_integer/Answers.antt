use mathlib.Core.Path.{ap, ◌∙◌}
use Rattle.numbers.specs.Integer.{integer_read}
use Rattle.numbers.proofs.IntegerText.{minus-fits, minus_number, minus-none, plus-number, plus-high, plus_none}
use borrow.Author.Rules.{rules}
use Rattle.numbers.proofs.integers.read_integer.Goals as goal

pub overflow_sub-result : goal.overflow_sub-result
overflow_sub-result c = search (rules, minus-fits)

pub returns-in_err-m : goal.returns-in_err-m
returns-in_err-m c =
    ap integer_read c.from_residual.ensures ∙ minus-none c.args.s.now _ _ c.has.ensures c.if-has.true c.read_natural.ensures c.in_err-m.was

pub returns-then-has : goal.returns-then-has
returns-then-has c = search (rules, minus_number)

pub returns-in_err-m-2 : goal.returns-in_err-m-2
returns-in_err-m-2 c =
    ap integer_read c.from_residual-in_err-m-2.ensures ∙ plus_none c.args.s.now _ _ c.has.ensures c.if-has.false c.read_natural-2.ensures c.in_err-m-2.was

pub returns-then-m-lt9223372036854775808 : goal.returns-then-m-lt9223372036854775808
returns-then-m-lt9223372036854775808 c = search (rules, plus-number)

pub returns-else-m-lt9223372036854775808 : goal.returns-else-m-lt9223372036854775808
returns-else-m-lt9223372036854775808 c = plus-high c.args.s.now _ _ c.has.ensures c.if-has.false c.read_natural-2.ensures _ c.in_ok-m-2.was c.if-m-lt9223372036854775808.false

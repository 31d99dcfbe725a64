use Rattle.numbers.proofs.Runs.{mul-fits, add-fits, other, past, many, one_more}
use borrow.Author.Rules.{rules}
use Rattle.numbers.proofs.decimals.read_run.Goals as goal

pub returns-then-not-is_ascii_digit-clause-meant : goal.returns-then-not-is_ascii_digit-clause-meant
returns-then-not-is_ascii_digit-clause-meant c = other c.loop-i.invariant c.loop-i-test.true c.if-not-is_ascii_digit.ensures.value

pub returns-then-limit-n-clause-meant : goal.returns-then-limit-n-clause-meant
returns-then-limit-n-clause-meant c = many c.loop-i.invariant c.loop-i-test.true c.if-not-is_ascii_digit.ensures.value c.if-limit-n.true

pub overflow_mul-v : goal.overflow_mul-v
overflow_mul-v c = search (rules, mul-fits)

pub overflow_add-v : goal.overflow_add-v
overflow_add-v c = add-fits c.loop-i.invariant _ c.if-limit-n.false c.if-not-is_ascii_digit.ensures.value c.from.ensures

pub loop-i-preserved : goal.loop-i-preserved
loop-i-preserved c = one_more c.loop-i.invariant c.loop-i-test.true c.if-not-is_ascii_digit.ensures.value c.if-limit-n.false c.from.ensures

pub returns : goal.returns
returns c = search (rules, past)

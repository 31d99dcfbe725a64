use borrow.Author.Rules.{rules}
use Rattle.json_text.proofs.Strings.{escape-over, escape_on, escape_halts, escape-out}
use Rattle.json_text.proofs.string.escape.Goals as goal

pub returns-in-Go-Plain : goal.returns-in-Go-Plain
returns-in-Go-Plain c = escape-over c.loop-i.invariant c.loop-i-test.true c.from.ensures c.text_step.ensures c.in-Go-Plain.is c.in-Go-Plain.field-0-is

pub loop-i-preserved : goal.loop-i-preserved
loop-i-preserved c = escape_on c.loop-i.invariant c.loop-i-test.true c.from.ensures c.text_step.ensures c.in-Go.is (search rules)

pub returns-in-Shut : goal.returns-in-Shut
returns-in-Shut c = escape_halts c.loop-i.invariant c.loop-i-test.true c.from.ensures c.text_step.ensures c.in-Shut.is

pub returns : goal.returns
returns c = escape-out c.loop-i.invariant c.loop-i-test.false

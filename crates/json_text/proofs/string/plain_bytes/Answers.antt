use mathlib.Core.Path.{refl, sym, ◌∙◌}
use Rattle.json_text.proofs.Strings.{plain_of, run_then, run-one, run-over, run_end}
use Rattle.json_text.proofs.string.plain_bytes.Goals as goal

pub returns-then-not-stands_for_itself : goal.returns-then-not-stands_for_itself
returns-then-not-stands_for_itself c = run-over c.loop-i.invariant c.loop-i-test.true refl (sym c.stands_for_itself.ensures ∙ c.if-not-stands_for_itself.true)

pub loop-i-preserved : goal.loop-i-preserved
loop-i-preserved c =
    run_then c.loop-i.invariant (run-one c.args.s.now c.loop-i.i _ _ refl c.loop-i-test.true refl (plain_of _ (sym c.stands_for_itself.ensures ∙ c.if-not-stands_for_itself.false)))

pub returns : goal.returns
returns c = run_end c.loop-i.invariant c.loop-i-test.false

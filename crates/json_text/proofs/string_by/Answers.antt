use mathlib.Core.Path.{sym, ◌∙◌}
use Rattle.json_text.proofs.Ends.{anyhow, by-string}
use Rattle.json_text.proofs.Strings.{string-not}
use Rattle.json_text.proofs.string_by.Goals as goal

pub returns-then-peek-ne34 : goal.returns-then-peek-ne34
returns-then-peek-ne34 c = anyhow (string-not _ _ c.peek.ensures c.if-peek-ne34.true)

pub returns-in-Some : goal.returns-in-Some
returns-in-Some c = by-string c.end_in.ensures c.in-Some.is (sym c.peek.ensures ∙ c.if-peek-ne34.false)

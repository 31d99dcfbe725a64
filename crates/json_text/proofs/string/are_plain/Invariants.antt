use mathlib.Core.Path.{◌≡◌}
use mathlib.Core.Bool.{true}
use Rattle.json_text.specs.Parts.{EachPlain}
use Rattle.json_text.proofs.string.are_plain.Given as goal

abbrev pub invariant-loop-b : goal.invariant-loop-b
invariant-loop-b l = l.all ≡ true → EachPlain l.block l.b-index

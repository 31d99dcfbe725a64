use Rattle.std.proofs.Common.{rules, tests}
use mathlib.Core.Path.{refl}
use lib.Dec.{eqb}
use Rattle.std.proofs.lemmas.Iterator.Splits.{YieldsList-from_slice_split}
use Rattle.std.proofs.lemmas.Iterator.Consumers.{nth_from_yields_List}
use Rattle.lines.proofs.Parting.{found}
use Rattle.lines.proofs.word.at.Goals as goal

pub returns : goal.returns
returns c =
    found c.args.line.now c.args.k _ _ _ c.unwrap_or.ensures refl (nth_from_yields_List _ _ _ c.nth.ensures.ran (YieldsList-from_slice_split _ (λ b. eqb b 32) c.args.line.now c.split.ensures.rest c.split.ensures.done c.split.ensures.closure (λ x b q. search (rules, tests))))

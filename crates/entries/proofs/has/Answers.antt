use Rattle.std.proofs.Common.{rules, tests, nat_eq, ◌∙◌}
use Rattle.std.proofs.lemmas.Iterator.Splits.{YieldsList-from_slice_split}
use Rattle.std.proofs.lemmas.Iterator.Search.{any_from_yields_List}
use Rattle.text.specs.Bytes.{eq_bytes}
use Rattle.entries.proofs.From.{found_among}
use Rattle.entries.proofs.has.Goals as goal

pub returns : goal.returns
returns c =
    any_from_yields_List (eq_bytes c.args.entry.now) _ _ c.any.result c.any.ensures.ran (YieldsList-from_slice_split _ (λ b. nat_eq b 44) c.args.s.now c.split.ensures.rest c.split.ensures.done c.split.ensures.closure (λ x b q k. search (rules, tests))) (λ x b q k. search (rules, tests))
    ∙ found_among c.args.entry.now c.args.s.now

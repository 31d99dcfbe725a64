use Rattle.std.proofs.Common.{rules, tests, nat_eq, ◌∙◌}
use Rattle.std.proofs.lemmas.Iterator.Splits.{YieldsList-from_slice_split}
use Rattle.std.proofs.lemmas.Iterator.Search.{all_from_yields_List}
use Rattle.entries.specs.Entries.{is_in, entries_of}
use Rattle.entries.proofs.From.{each_among}
use Rattle.entries.proofs.all_in.Goals as goal

pub returns : goal.returns
returns c =
    all_from_yields_List (λ l. is_in l (entries_of c.args.of.now)) _ _ c.all.result c.all.ensures.ran (YieldsList-from_slice_split _ (λ b. nat_eq b 44) c.args.s.now c.split.ensures.rest c.split.ensures.done c.split.ensures.closure (λ x b q k. search (rules, tests))) (λ x b q k. search (rules, tests))
    ∙ each_among c.args.s.now (entries_of c.args.of.now)

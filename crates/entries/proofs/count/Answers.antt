use Rattle.std.proofs.Common.{rules, tests, nat_eq, length, sym, ap, ◌∙◌}
use Rattle.std.proofs.lemmas.Iterator.Splits.{YieldsList-from_slice_split}
use Rattle.std.proofs.lemmas.Iterator.Consumers.{count_from_yields_List}
use Rattle.text.proofs.Split.{split-parts}
use Rattle.entries.proofs.count.Goals as goal

pub returns : goal.returns
returns c =
    count_from_yields_List c.split.result c.count.result c.count.ensures.ran (YieldsList-from_slice_split _ (λ b. nat_eq b 44) c.args.s.now c.split.ensures.rest c.split.ensures.done c.split.ensures.closure (λ x b q k. search (rules, tests)))
    ∙ ap length (sym (split-parts 44 c.args.s.now))

use Rattle.std.proofs.Common.{rules, tests, ◌∙◌}
use Rattle.std.proofs.lemmas.Iterator.{YieldsList-from_slice}
use Rattle.std.proofs.lemmas.Iterator.Search.{all_from_yields_List}
use Rattle.text.specs.Ids.{id_byte}
use Rattle.text.proofs.Ids.{every_is}
use Rattle.text.proofs.id_bytes.Goals as goal

pub returns : goal.returns
returns c = all_from_yields_List id_byte _ _ c.all.result c.all.ensures.ran (YieldsList-from_slice _ c.iter.ensures.rest) (λ x b q k. search (rules, tests)) ∙ every_is id_byte c.args.s.now

use mathlib.Core.Path.{◌∙◌}
use Rattle.imprint.proofs.Writes.{flag_is, traits}
use Rattle.imprint.proofs.put_traits.Goals as goal

pub returns : goal.returns
returns c = traits _ _ _ _ _ _ _ c.requires (c.from.ensures ∙ flag_is _) (c.from-2.ensures ∙ flag_is _)

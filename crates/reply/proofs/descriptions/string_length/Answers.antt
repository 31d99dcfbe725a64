use mathlib.Core.Path.{◌∙◌}
use Rattle.reply.proofs.Said.{length_or_none}
use Rattle.reply.proofs.descriptions.string_length.Goals as goal

pub returns : goal.returns
returns c = c.unwrap_or.ensures ∙ length_or_none _ _ c.decode_at.ensures

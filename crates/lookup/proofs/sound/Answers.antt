use mathlib.Core.Path.{sym, ◌∙◌}
use mathlib.Core.Bool.{false≢true}
use Rattle.lookup.proofs.Opening.{by-domain}
use Rattle.lookup.proofs.sound.Goals as goal

pub returns-else-sound : goal.returns-else-sound
returns-else-sound c = (λ t. absurd (false≢true (sym c.if-sound.false ∙ t)), λ f s. c.sound.ensures.1 f s.memory)

pub returns-then-sound : goal.returns-then-sound
returns-then-sound c = by-domain _ _ _ (c.sound.ensures.0 c.if-sound.true) c.domain.ensures c.is_id.ensures

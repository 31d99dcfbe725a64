use mathlib.Core.Path.{ap, ◌∙◌}
use mathlib.Core.Bool.{not}
use Rattle.properties.proofs.Insertion.{before-own, before_yes, before_no, before_ids}
use Rattle.properties.proofs.is_before.Goals as goal

pub returns-then-a-c : goal.returns-then-a-c
returns-then-a-c c = λ h b w. before-own _ _ _ _ _ w c.if-a-c.true (c.id_precedes.ensures h w.both.second)

pub returns-then-precedes : goal.returns-then-precedes
returns-then-precedes c = λ h b w. c.if-precedes.true ∙ before_yes _ _ _ _ _ w (c.raw_bytes_by-other.ensures h) (c.is_plain_by.ensures h) c.precedes.ensures c.if-precedes.true

pub returns-then-not-precedes : goal.returns-then-not-precedes
returns-then-not-precedes c =
    λ h b w. before_ids _ _ _ _ _ w (c.raw_bytes_by-other.ensures h) (c.is_plain_by.ensures h) c.precedes.ensures c.if-precedes.false c.precedes-else-precedes.ensures c.if-not-precedes.true (c.id_precedes-then-not-precedes.ensures h w.both.second)

pub returns-else-not-precedes : goal.returns-else-not-precedes
returns-else-not-precedes c =
    λ h b w. ap not c.if-not-precedes.false ∙ before_no _ _ _ _ _ w (c.raw_bytes_by-other.ensures h) (c.is_plain_by.ensures h) c.precedes.ensures c.if-precedes.false c.precedes-else-precedes.ensures c.if-not-precedes.false

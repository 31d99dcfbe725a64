use mathlib.Core.Path.{◌∙◌}
use Rattle.faults.proofs.Laws.{join-told}
use Rattle.nodes.specs.Parts.{seen_faults}
use Rattle.nodes.proofs.Nodes.{told_of}
use Rattle.nodes.proofs.fields_told.Goals as goal

pub returns : goal.returns
unfolding seen_faults
returns c =
    λ h. c.earlier-2.ensures ∙ join-told _ _ (told_of _ _ 0 _ c.get.ensures (c.field_told-name.ensures h)) (c.earlier.ensures ∙ join-told _ _ (told_of _ _ 1 _ c.get-2.ensures (c.field_told-kind.ensures h)) (told_of _ _ 13 _ c.get-3.ensures (c.field_told-held.ensures h)))

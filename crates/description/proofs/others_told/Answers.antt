use mathlib.Core.Path.{◌∙◌}
use Rattle.faults.proofs.Laws.{join-told}
use Rattle.description.specs.Parts.{other_faults_in}
use Rattle.description.proofs.Whole.{told_of}
use Rattle.description.proofs.others_told.Goals as goal

pub returns : goal.returns
unfolding other_faults_in
returns c =
    λ h. c.earlier-2.ensures ∙ join-told _ _ (told_of _ _ 5 _ c.get.ensures (c.field_told-nodes.ensures h)) (c.earlier-texts.ensures ∙ join-told _ _ (told_of _ _ 0 _ c.get-2.ensures (c.field_told-name.ensures h)) (c.earlier.ensures ∙ join-told _ _ (told_of _ _ 1 _ c.get-3.ensures (c.field_told-kind.ensures h)) (c.earlier-arrays.ensures ∙ join-told _ _ (told_of _ _ 12 _ c.get-4.ensures (c.field_told-children.ensures h)) (told_of _ _ 14 _ c.get-5.ensures (c.field_told-extensions.ensures h)))))

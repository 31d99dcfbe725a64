use mathlib.Core.Path.{refl}
use Rattle.description.proofs.Whole.{device-tells}
use Rattle.description.proofs.device_by.Goals as goal

pub returns : goal.returns
returns c =
    λ h w. device-tells _ _ _ _ w c.get.ensures (c.homie_told-homie.ensures h) c.get-2.ensures (c.version_of-v.ensures h) (c.others_told.ensures h) (c.relatives_told.ensures h) c.get-3.ensures (c.nodes_in-a.ensures h) c.earlier-related.ensures c.earlier-others.ensures c.earlier.ensures c.earlier-required.ensures c.earlier-2.ensures c.get-4.ensures c.get-5.ensures refl refl refl refl

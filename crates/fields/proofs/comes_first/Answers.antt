use Rattle.fields.proofs.Decoded.{untold-whole}
use Rattle.fields.proofs.Fields.{comes-half, comes-whole}
use Rattle.fields.proofs.comes_first.Goals as goal

pub returns-in-Some : goal.returns-in-Some
returns-in-Some c = λ h w. comes-half _ _ _ _ (c.half_told.ensures h) c.in-Some.is

pub returns-in-None : goal.returns-in-None
returns-in-None c =
    λ h w. comes-whole _ _ _ _ (c.half_told.ensures h) c.in-None.is (c.first_named.ensures h (untold-whole _ _ (c.half_told.ensures h) c.in-None.is) w) c.is_first.ensures

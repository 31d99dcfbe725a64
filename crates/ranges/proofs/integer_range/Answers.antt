use mathlib.Core.Path.{sym, ap, ◌∙◌}
use lib.Signed.{le_z}
use Rattle.numbers.specs.Integer.{integer}
use Rattle.ranges.specs.Ranges.{positive}
use Rattle.ranges.specs.Answers.{whole_range_of}
use Rattle.ranges.specs.Parts.{shown_with}
use Rattle.ranges.proofs.Words.{integer-fields}
use Rattle.ranges.proofs.Reading.{range-bounds, range-three, range_other, whole-bound}
use Rattle.ranges.proofs.integer_range.Goals as goal

pub returns-in_err-f : goal.returns-in_err-f
returns-in_err-f c = ap whole_range_of c.from_residual.ensures ∙ range_other integer le_z positive c.in_err-f.ensures ∙ integer-fields _

pub returns-in-Some : goal.returns-in-Some
returns-in-Some c =
    c.whole_stepped.ensures
    ∙ range-three integer le_z positive (ap (shown_with _ _) (sym c.in-Some.is) ∙ c.in_ok-f.ensures) (whole-bound integer _ _ c.bound-min.ensures c.read_integer.ensures) (whole-bound integer _ _ c.bound-max.ensures c.read_integer-2.ensures) c.read_integer-in-Some.ensures
    ∙ integer-fields _

pub returns-in-None : goal.returns-in-None
returns-in-None c =
    c.whole_within.ensures
    ∙ range-bounds integer le_z positive (ap (shown_with _ _) (sym c.in-None.is) ∙ c.in_ok-f.ensures) (whole-bound integer _ _ c.bound-min.ensures c.read_integer.ensures) (whole-bound integer _ _ c.bound-max.ensures c.read_integer-2.ensures)
    ∙ integer-fields _

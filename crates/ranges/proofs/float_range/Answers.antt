use mathlib.Core.Path.{sym, ap, ◌∙◌}
use Rattle.numbers.specs.Billionths.{billionths}
use Rattle.ranges.specs.Answers.{float_range_of}
use Rattle.ranges.specs.Parts.{shown_with, float_fields}
use Rattle.ranges.proofs.Words.{float-fields}
use Rattle.ranges.proofs.Reading.{two-bounds, three-bounds, whole-bound, exact-bound}
use Rattle.ranges.proofs.float_range.Goals as goal

pub returns-in_err-f : goal.returns-in_err-f
returns-in_err-f c = ap float_range_of c.from_residual.ensures ∙ ap float_fields c.in_err-f.ensures ∙ float-fields _

pub returns-in_default : goal.returns-in_default
returns-in_default c =
    c.float_within.ensures
    ∙ two-bounds _ _ (exact-bound _ _ c.bound-min.ensures c.read_exact.ensures) (exact-bound _ _ c.bound-max.ensures c.read_exact-in_default.ensures)
    ∙ ap float_fields (ap (shown_with _ _) (sym c.in_default.is) ∙ c.in_ok-f.ensures)
    ∙ float-fields _

pub returns-in_err-range : goal.returns-in_err-range
returns-in_err-range c =
    ap float_range_of c.from_residual-in_err-range.ensures
    ∙ three-bounds _ _ _ c.in_err-range.ensures (whole-bound billionths _ _ c.bound-min-2.ensures c.read_billionths.ensures) (whole-bound billionths _ _ c.bound-max-2.ensures c.read_billionths-2.ensures) c.read_billionths-3.ensures
    ∙ ap float_fields (ap (shown_with _ _) (sym c.in-Some.is) ∙ c.in_ok-f.ensures)
    ∙ float-fields _

pub returns : goal.returns
returns c =
    three-bounds _ _ _ c.in_ok-range.ensures (whole-bound billionths _ _ c.bound-min-2.ensures c.read_billionths.ensures) (whole-bound billionths _ _ c.bound-max-2.ensures c.read_billionths-2.ensures) c.read_billionths-3.ensures
    ∙ ap float_fields (ap (shown_with _ _) (sym c.in-Some.is) ∙ c.in_ok-f.ensures)
    ∙ float-fields _

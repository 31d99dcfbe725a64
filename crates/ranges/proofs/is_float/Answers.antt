use Rattle.std.specs.Prelude.{Some}
use mathlib.Core.Path.{sym, ap, ◌∙◌}
use Rattle.ranges.specs.Answers.{float_bounds}
use Rattle.ranges.proofs.Reading.{no-bounds, in_bounds, in-steps}
use Rattle.ranges.proofs.is_float.Goals as goal

pub returns-in-Some-Exact : goal.returns-in-Some-Exact
returns-in-Some-Exact c = in_bounds c.args.format.now c.args.s.now (sym (ap (λ f. Some (float_bounds f)) c.in-Some-Exact.field-0-is) ∙ c.in-Some-Exact.ensures) c.is_decimal.ensures

pub returns-in-Some-Stepped : goal.returns-in-Some-Stepped
returns-in-Some-Stepped c = in-steps c.args.format.now c.args.s.now (sym (ap (λ f. Some (float_bounds f)) c.in-Some-Stepped.field-0-is) ∙ c.in-Some-Stepped.ensures) c.read_billionths.ensures c.is_whole.ensures

pub returns-in-None : goal.returns-in-None
returns-in-None c = no-bounds c.args.format.now c.args.s.now c.in-None.ensures

use mathlib.Core.Path.{sym, ◌∙◌}
use mathlib.Core.Bool.{false≢true}
use Rattle.handover.proofs.Handing.{not-retained, no-longer-retained, retained_in-both}
use Rattle.handover.proofs.keeps_value.Goals.{then-q, else-q}
use Rattle.handover.proofs.keeps_value.Goals as goal

pub returns-then-p : goal.returns-then-p
returns-then-p c = elim c.if-q.branch [
  | then-q w ↦ retained_in-both c.args.image.now c.args.p c.args.old.now c.args.q w.if-q.true (sym w.value-is ∙ c.if-p.true) c.lane_of.ensures c.still_valid.ensures
  | else-q w ↦ absurd (false≢true (sym w.if-q.false ∙ sym w.value-is ∙ c.if-p.true))
]

pub returns-else-p : goal.returns-else-p
returns-else-p c = elim c.if-q.branch [
  | then-q w ↦ c.if-p.false ∙ no-longer-retained c.args.image.now c.args.p c.args.old.now c.args.q (sym w.value-is ∙ c.if-p.false)
  | else-q w ↦ c.if-p.false ∙ not-retained c.args.image.now c.args.p c.args.old.now c.args.q w.if-q.false
]

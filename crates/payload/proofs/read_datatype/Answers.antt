use mathlib.Core.Path.{refl, ap, ◌∙◌}
use Rattle.text.specs.Bytes.{eq_bytes}
use Rattle.payload.proofs.Judging.{asking, named, other, unnamed}
use Rattle.payload.proofs.read_datatype.Goals as goal

pub loop-d-init : goal.loop-d-init
loop-d-init c = asking _

pub returns-then-same : goal.returns-then-same
returns-then-same c = named c.loop-d.invariant c.loop-d-test.true _ refl (c.same.ensures ∙ ap (eq_bytes c.args.s.now) c.name.ensures) c.if-same.true

pub loop-d-preserved : goal.loop-d-preserved
loop-d-preserved c = other c.loop-d.invariant c.loop-d-test.true _ refl (c.same.ensures ∙ ap (eq_bytes c.args.s.now) c.name.ensures) c.if-same.false

pub returns : goal.returns
returns c = unnamed c.loop-d.invariant c.loop-d-test.false

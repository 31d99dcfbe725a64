use native.Mathlib.Omega.{arith}
use mathlib.Core.Path.{◌≡◌, sym, ◌∙◌}
use Rattle.handover.proofs.Handing.{handing-none, handing-more, handed-over}
use Rattle.handover.proofs.hand_over.Goals as goal

pub loop-i-init : goal.loop-i-init
loop-i-init c = handing-none _ _ (omega arith)

pub loop-i-preserved : goal.loop-i-preserved
loop-i-preserved c = handing-more _ _ _ _ _ (omega (arith, c.properties-n.ensures)) c.loop-i.invariant c.property.ensures

pub returns : goal.returns
returns c =
    let e : c.loop-i.i ≡ c.properties-n.result = omega arith in
    handed-over _ _ _ _ (omega arith) (sym (e ∙ c.properties-n.ensures)) c.loop-i.invariant

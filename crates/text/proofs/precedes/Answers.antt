use Prim.Native.Nat.{ℕ}
use native.Mathlib.Omega.{arith}
use mathlib.Core.Path.{◌≡◌, refl, ap, ◌∙◌}
use lib.ListN.{drop}
use Rattle.text.specs.Bytes.{less_bytes}
use Rattle.text.proofs.Bytes.{less-here, less-next, less_shorter}
use Rattle.text.proofs.precedes.Goals as goal

pub loop-i-init : goal.loop-i-init
loop-i-init c = refl

pub returns-then-x-y : goal.returns-then-x-y
returns-then-x-y c = less-here c.args.a.now c.args.b.now c.loop-i.i (omega arith) (omega arith) (λ e. omega arith) ∙ c.loop-i.invariant

pub loop-i-preserved : goal.loop-i-preserved
loop-i-preserved c = less-next c.args.a.now c.args.b.now c.loop-i.i (omega arith) (omega arith) (omega arith) ∙ c.loop-i.invariant

pub returns : goal.returns
returns c =
    let a = c.args.a.now in let b = c.args.b.now in let e : c.min-n.result ≡ c.loop-i.i = omega arith in less_shorter a b c.min-n.result c.min-n.ensures ∙ ap (λ (k : ℕ). less_bytes (drop k a) (drop k b)) e ∙ c.loop-i.invariant

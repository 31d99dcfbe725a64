use Prim.Native.Nat.{◌+◌, ◌-◌}
use native.Mathlib.Omega.{arith}
use mathlib.Core.Path.{◌≡◌, refl, sym}
use Rattle.text.proofs.Bytes.{eq-long, eq-end, eq_differs, eq-back, eq_bytes_yes}
use Rattle.text.proofs.same.Goals as goal

pub returns-then-a-b : goal.returns-then-a-b
returns-then-a-b c = sym (eq-long _ _ (λ e. omega arith))

pub loop-i-init : goal.loop-i-init
loop-i-init c = let a = c.args in eq-end a.a.now a.b.now _ refl (omega arith)

pub returns-then-a-i : goal.returns-then-a-i
returns-then-a-i c = let a = c.args in eq_differs a.a.now a.b.now (c.loop-i.i - 1) (λ e. omega arith)

pub loop-i-preserved : goal.loop-i-preserved
loop-i-preserved c =
    let a = c.args in
    let s : c.loop-i.i - 1 + 1 ≡ c.loop-i.i = omega arith in
    eq-back a.a.now a.b.now (c.loop-i.i - 1) (omega arith) (omega arith) (rw s c.loop-i.invariant) (omega arith)

pub returns : goal.returns
returns c =
    let a = c.args in
    let z : c.loop-i.i ≡ 0 = omega arith in
    sym (eq_bytes_yes a.a.now a.b.now (rw z at c.loop-i.invariant))

use mathlib.Core.Path.{◌≡◌, sym, ap, ◌∙◌}
use Prim.Native.Nat.{ℕ, ◌+◌, ◌-◌}
use native.Mathlib.Nat.{add-zero, sub-zero}
use native.Mathlib.Omega.{arith}
use borrow.Author.Rules.{rules}
use Rattle.little_endian.specs.Bytes.{num}
use Rattle.little_endian.proofs.Numbers.{num-none, get-step, num_lt, num-room}
use Rattle.little_endian.proofs.read_each.Goals as goal

pub loop-j-init : goal.loop-j-init
loop-j-init c =
    let a = c.args in
    let e : a.w - a.w ≡ 0 = omega arith in
    (search rules, num-none (a.at + a.w) a.s.now ∙ ap (λ (k : ℕ). num k (a.at + a.w) a.s.now) (sym e))

pub overflow_mul-v : goal.overflow_mul-v
overflow_mul-v c =
    let a = c.args in
    let b = c.type_inv.s in
    let h = num-room (a.w - c.loop-j.j) (a.at + c.loop-j.j) a.s.now (omega arith) (λ i. omega (arith, b i)) in
    omega arith

pub overflow_add-v : goal.overflow_add-v
overflow_add-v c =
    let a = c.args in
    let b = c.type_inv.s in
    let h = num-room (a.w - c.loop-j.j) (a.at + c.loop-j.j) a.s.now (omega arith) (λ i. omega (arith, b i)) in
    omega (arith, b (a.at + (c.loop-j.j - 1)))

pub loop-j-preserved : goal.loop-j-preserved
loop-j-preserved c =
    let a = c.args in
    (search rules, get-step a.s.now a.at a.w c.loop-j.j c.loop-j.v c.from.result (omega arith) (omega arith) (omega arith) c.loop-j.invariant.1 c.from.ensures)

pub returns : goal.returns
returns c =
    let a = c.args in
    let z : c.loop-j.j ≡ 0 = omega arith in
    let e : c.loop-j.v ≡ num a.w a.at a.s.now = c.loop-j.invariant.1 ∙ rw (z, add-zero, sub-zero) in
    (e, rw e (num_lt a.w a.at a.s.now (λ i. omega (arith, c.type_inv.s i))))

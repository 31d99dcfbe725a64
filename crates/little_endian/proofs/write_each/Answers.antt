use mathlib.Core.Path.{refl, sym, ap}
use Prim.Native.Nat.{ℕ}
use native.Mathlib.Nat.{sub-zero}
use native.Mathlib.Omega.{arith}
use lib.ListN.{length-set}
use Rattle.little_endian.specs.Bytes.{le_bytes}
use Rattle.little_endian.proofs.Numbers.{length-le_bytes}
use Rattle.little_endian.proofs.Put.{all-put, put-none, put_step}
use borrow.Author.Rules.{rules}
use Rattle.little_endian.proofs.write_each.Goals as goal

pub loop-j-init : goal.loop-j-init
loop-j-init c = (search rules, refl, put-none _ _, ap (λ (k : ℕ). le_bytes k c.args.x) (sym (sub-zero c.args.w)))

pub loop-j-preserved : goal.loop-j-preserved
loop-j-preserved c =
    let a = c.args in
    let s = put_step a.d.now (le_bytes a.w a.x) c.loop-j.d a.at a.w c.loop-j.v c.loop-j.j (length-le_bytes a.w a.x) (omega arith) (omega arith) c.loop-j.invariant.2 c.loop-j.invariant.3 in
    (search rules, simp length-set c.loop-j.invariant.1, s.0, s.1)

pub shape_of-d : goal.shape_of-d
shape_of-d c = c.loop-j.invariant.1

pub returns : goal.returns
returns c =
    let a = c.args in
    all-put a.d.now (le_bytes a.w a.x) c.loop-j.d a.at c.loop-j.j (omega (arith, length-le_bytes a.w a.x)) c.loop-j.invariant.2

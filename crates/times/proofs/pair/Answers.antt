use native.Mathlib.Omega.{arith}
use mathlib.Core.Path.{◌∙◌}
use Prim.Native.Nat.{◌+◌}
use Rattle.times.specs.Parts.{byte_at}
use Rattle.times.proofs.Bytes.{pair-first, pair-second, pair_is, digit-most}
use Rattle.times.proofs.pair.Goals as goal

pub returns-in_err-a : goal.returns-in_err-a
returns-in_err-a c = c.from_residual.ensures ∙ pair-first (byte_at c.args.s.now c.args.at) (byte_at c.args.s.now (c.args.at + 1)) c.in_err-a.ensures

pub returns-in_err-b : goal.returns-in_err-b
returns-in_err-b c = c.from_residual-in_err-b.ensures ∙ pair-second (byte_at c.args.s.now c.args.at) (byte_at c.args.s.now (c.args.at + 1)) c.in_err-b.ensures

pub overflow_mul-result : goal.overflow_mul-result
overflow_mul-result c = omega (arith, digit-most (byte_at c.args.s.now c.args.at) c.in_ok-a.ensures)

pub overflow_add-result : goal.overflow_add-result
overflow_add-result c =
    omega (arith, digit-most (byte_at c.args.s.now c.args.at) c.in_ok-a.ensures, digit-most (byte_at c.args.s.now (c.args.at + 1)) c.in_ok-b.ensures)

pub returns : goal.returns
returns c = pair_is (byte_at c.args.s.now c.args.at) (byte_at c.args.s.now (c.args.at + 1)) c.in_ok-a.ensures c.in_ok-b.ensures

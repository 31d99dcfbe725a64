use Prim.Native.Nat.{◌+◌, ◌-◌}
use native.Mathlib.Omega.{arith}
use mathlib.Core.Path.{◌≡◌, ◌∙◌}
use Rattle.lines.proofs.Pairing.{value-digit, value-letter, digit-first, digit-second}
use Rattle.lines.proofs.hex.value.Goals as goal

pub overflow_sub-result : goal.overflow_sub-result
overflow_sub-result c = digit-first _ c.requires

pub overflow_sub-result-else-b-le57 : goal.overflow_sub-result-else-b-le57
overflow_sub-result-else-b-le57 c = (digit-second _ c.requires (omega arith)).0

pub returns-then-b-le57 : goal.returns-then-b-le57
returns-then-b-le57 c = (value-digit _ (digit-first _ c.requires) c.if-b-le57.true, omega arith)

pub returns-else-b-le57 : goal.returns-else-b-le57
returns-else-b-le57 c =
    let d = digit-second c.args.b c.requires (omega arith) in
    let e : c.args.b - 97 + 10 ≡ c.args.b - 87 = omega (arith, d) in
    (e ∙ value-letter _ d.0 d.1, omega (arith, d))

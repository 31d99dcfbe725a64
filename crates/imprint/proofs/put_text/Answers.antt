use native.Mathlib.Omega.{arith}
use Rattle.std.proofs.Common.{rules}
use Rattle.std.proofs.lemmas.Grind.{elements}
use Rattle.imprint.proofs.Writes.{texted}
use Rattle.imprint.proofs.put_text.Goals as goal

pub returns : goal.returns
returns c =
    texted _ _ _ _ _ c.min-n.result (omega (arith, c.min-n.ensures, c.from.ensures)) c.requires (record {
      kept = search rules;
      inside = λ k h. grind (arith, elements);
      below = λ k h. grind (arith, elements);
      above = λ k h. grind (arith, elements);
    })

use mathlib.Core.Path.{◌∙◌}
use borrow.Author.Tests.{ne_eqb}
use borrow.Author.Rules.{rules}
use Rattle.std.proofs.lemmas.Iterator.{YieldsList-from_slice}
use Rattle.std.proofs.lemmas.Iterator.Search.{all_from_yields_List}
use Rattle.lines.specs.Hex.{is_digit}
use Rattle.lines.proofs.Pairing.{all-pairs}
use Rattle.lines.proofs.Decoding.{odd-pairs}
use Rattle.lines.proofs.hex.are_pairs.Goals as goal

pub returns-then-w-eq0 : goal.returns-then-w-eq0
returns-then-w-eq0 c =
    all_from_yields_List is_digit _ _ _ c.all.ensures.ran (YieldsList-from_slice c.args.w.now cc) (λ x b q k. search rules) ∙ all-pairs _ c.if-w-eq0.true

pub returns-else-w-eq0 : goal.returns-else-w-eq0
returns-else-w-eq0 c = ne_eqb _ _ c.if-w-eq0.false ∙ odd-pairs _ c.if-w-eq0.false

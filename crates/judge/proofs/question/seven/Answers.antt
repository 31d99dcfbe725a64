use Rattle.text.specs.Bytes.{eq_bytes}
use Rattle.text.specs.Ascii.{ascii}
use mathlib.Core.Path.{sym, ap, ◌∙◌}
use mathlib.Core.List.{List}
use Prim.Native.Nat.{ℕ}
use Rattle.judge.proofs.Shapes.{seven-append, seven-other}
use Rattle.judge.proofs.Saying.{says}
use Rattle.judge.proofs.question.seven.Goals as goal

pub append_line-requires : goal.append_line-requires
append_line-requires c = c.requires

pub returns-then-same : goal.returns-then-same
returns-then-same c =
    says (seven-append _ _ _ _ _ _ _ (sym c.if-same.true ∙ c.same.ensures ∙ ap (λ (v : List ℕ). eq_bytes v (ascii "append")) c.at.ensures)) c.append_line.ensures

pub returns : goal.returns
returns c =
    says (seven-other _ _ _ _ _ _ _ (sym c.if-same.false ∙ c.same.ensures ∙ ap (λ (v : List ℕ). eq_bytes v (ascii "append")) c.at.ensures)) c.unknown.ensures

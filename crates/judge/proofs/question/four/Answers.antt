use Rattle.text.specs.Bytes.{eq_bytes}
use Rattle.text.specs.Ascii.{ascii}
use mathlib.Core.Path.{sym, ap, ◌∙◌}
use mathlib.Core.List.{List}
use Prim.Native.Nat.{ℕ}
use Rattle.judge.proofs.Shapes.{four-payload, four-other}
use Rattle.judge.proofs.Saying.{says}
use Rattle.judge.proofs.question.four.Goals as goal

pub payload_line-requires : goal.payload_line-requires
payload_line-requires c = c.requires

pub returns-then-same : goal.returns-then-same
returns-then-same c =
    says (four-payload _ _ _ _ (sym c.if-same.true ∙ c.same.ensures ∙ ap (λ (v : List ℕ). eq_bytes v (ascii "payload")) c.at.ensures)) c.payload_line.ensures

pub returns : goal.returns
returns c =
    says (four-other _ _ _ _ (sym c.if-same.false ∙ c.same.ensures ∙ ap (λ (v : List ℕ). eq_bytes v (ascii "payload")) c.at.ensures)) c.unknown.ensures

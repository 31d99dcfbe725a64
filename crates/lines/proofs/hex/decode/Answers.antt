use mathlib.Core.Path.{sym, ◌∙◌}
use borrow.Author.Tests.{eqb-true, eqb-false}
use Rattle.lines.proofs.Decoding.{decode-none, decode_empty, decode_odd, decode-fits, decode-full, decode-all}
use Rattle.lines.proofs.hex.decode.Goals.{then-is_empty-via-then-is_empty, then-is_empty-via-else-is_empty+then-not-are_pairs}
use Rattle.lines.proofs.hex.decode.Goals as goal

pub returns-then-same : goal.returns-then-same
returns-then-same c = decode-none _ _ (sym c.if-same.true ∙ c.same.ensures)

pub returns-then-is_empty : goal.returns-then-is_empty
returns-then-is_empty c = elim c.then-is_empty.branch [
  | then-is_empty-via-then-is_empty w ↦ decode_empty _ _ (sym c.if-same.false ∙ c.same.ensures) (eqb-true _ _ (sym c.is_empty.ensures ∙ w.if-is_empty.true))
  | then-is_empty-via-else-is_empty+then-not-are_pairs w ↦ decode_odd _ _ (sym c.if-same.false ∙ c.same.ensures) (sym w.if-not-are_pairs.true ∙ w.are_pairs.ensures)
]

pub returns-then-n-buf : goal.returns-then-n-buf
returns-then-n-buf c =
    decode-full _ _ (sym c.if-same.false ∙ c.same.ensures) (eqb-false _ _ (sym c.is_empty.ensures ∙ c.if-is_empty.false)) (sym c.if-not-are_pairs.false ∙ c.are_pairs.ensures) c.if-n-buf.true

pub fill-requires : goal.fill-requires
fill-requires c =
    let a = c.args in
    (sym c.are_pairs.ensures ∙ c.if-not-are_pairs.false, decode-fits a.w.now a.buf.now (sym c.if-same.false ∙ c.same.ensures) (eqb-false _ _ (sym c.is_empty.ensures ∙ c.if-is_empty.false)) (sym c.if-not-are_pairs.false ∙ c.are_pairs.ensures) c.if-n-buf.false)

pub returns : goal.returns
returns c =
    decode-all _ _ (sym c.if-same.false ∙ c.same.ensures) (eqb-false _ _ (sym c.is_empty.ensures ∙ c.if-is_empty.false)) (sym c.if-not-are_pairs.false ∙ c.are_pairs.ensures) c.if-n-buf.false c.fill.ensures

use mathlib.Core.Path.{sym, ◌∙◌}
use native.Mathlib.Omega.{arith}
use Rattle.faults.proofs.Laws.{told-as}
use Rattle.json_text.proofs.Bytes.{inside=}
use Rattle.fields.proofs.Walk.{item_is, tell-done, tell_item, tell-elements}
use Rattle.fields.proofs.Values.{array_no, array_yes}
use Rattle.fields.proofs.array_told.Goals as goal

pub returns-then-peek-ne91 : goal.returns-then-peek-ne91
returns-then-peek-ne91 c = λ h. told-as c.at.ensures (array_no _ _ _ c.peek.ensures c.if-peek-ne91.true)

pub overflow_add-at : goal.overflow_add-at
overflow_add-at c = let h = inside= c.args.s.now _ 91 (sym c.peek.ensures ∙ c.if-peek-ne91.false) (omega arith) in omega arith

pub loop-element-init : goal.loop-element-init
loop-element-init c =
    let h = inside= c.args.s.now _ 91 (sym c.peek.ensures ∙ c.if-peek-ne91.false) (omega arith) in λ e. tell-elements _ _ _ c.peek.ensures c.if-peek-ne91.false c.skip-i.ensures.is (omega (arith, c.skip-i.ensures.to))

pub loop-element-preserved : goal.loop-element-preserved
loop-element-preserved c =
    λ h. tell_item _ _ _ _ _ (c.loop-element.invariant h) (item_is _ c.element_by.ensures c.in-Some.is h) c.earlier-told.ensures (c.item_told.ensures h)

pub returns : goal.returns
returns c =
    λ h. tell-done _ _ _ _ _ (c.loop-element.invariant h) (sym (c.element_by.ensures.is h) ∙ c.in_default.is) ∙ array_yes _ _ _ c.peek.ensures c.if-peek-ne91.false

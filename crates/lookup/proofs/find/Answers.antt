use Prim.Native.Nat.{ℕ}
use native.Mathlib.Omega.{arith}
use mathlib.Core.Path.{refl, sym, ◌∙◌}
use mathlib.Core.List.{List}
use Rattle.text.specs.Bytes.{eq_bytes}
use Rattle.lookup.proofs.Lists.{passed_none}
use Rattle.lookup.proofs.Ranks.{has-slot, found, passed, not_found}
use Rattle.lookup.proofs.find.Goals as goal

pub loop-i-init : goal.loop-i-init
loop-i-init c = passed_none _ _

pub has_id-requires : goal.has_id-requires
has_id-requires c = let h = has-slot _ _ _ c.count-n.ensures c.loop-i-test.true in omega arith

pub returns-then-has_id : goal.returns-then-has_id
returns-then-has_id c =
    let a = c.args in found a.mem.now (λ (s : List ℕ). eq_bytes s a.id.now) _ _ c.count-n.ensures c.loop-i.invariant _ c.loop-i-test.true refl (sym c.has_id.ensures ∙ c.if-has_id.true)

pub loop-i-preserved : goal.loop-i-preserved
loop-i-preserved c =
    let a = c.args in passed a.mem.now (λ (s : List ℕ). eq_bytes s a.id.now) _ _ c.count-n.ensures c.loop-i.invariant _ c.loop-i-test.true refl (sym c.has_id.ensures ∙ c.if-has_id.false)

pub returns : goal.returns
returns c = let a = c.args in not_found a.mem.now (λ (s : List ℕ). eq_bytes s a.id.now) _ _ c.count-n.ensures c.loop-i.invariant c.loop-i-test.false

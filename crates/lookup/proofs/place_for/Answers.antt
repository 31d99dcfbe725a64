use Prim.Native.Nat.{ℕ}
use native.Mathlib.Omega.{arith}
use mathlib.Core.Path.{sym, ◌∙◌}
use mathlib.Core.List.{List}
use Rattle.text.specs.Bytes.{less_bytes}
use Rattle.lookup.proofs.Lists.{passed_none}
use Rattle.lookup.proofs.Ranks.{has-slot, found, passed, not_found}
use Rattle.lookup.proofs.place_for.Goals as goal

pub loop-place-init : goal.loop-place-init
loop-place-init c = passed_none _ _

pub id_at-requires : goal.id_at-requires
id_at-requires c = let h = has-slot _ _ _ c.count-n.ensures c.loop-place-test.true in omega arith

pub returns-then-precedes : goal.returns-then-precedes
returns-then-precedes c =
    let a = c.args in found a.mem.now (λ (s : List ℕ). less_bytes a.id.now s) _ _ c.count-n.ensures c.loop-place.invariant _ c.loop-place-test.true c.id_at.ensures (sym c.precedes.ensures ∙ c.if-precedes.true)

pub loop-place-preserved : goal.loop-place-preserved
loop-place-preserved c =
    let a = c.args in passed a.mem.now (λ (s : List ℕ). less_bytes a.id.now s) _ _ c.count-n.ensures c.loop-place.invariant _ c.loop-place-test.true c.id_at.ensures (sym c.precedes.ensures ∙ c.if-precedes.false)

pub returns : goal.returns
returns c =
    let a = c.args in not_found a.mem.now (λ (s : List ℕ). less_bytes a.id.now s) _ _ c.count-n.ensures c.loop-place.invariant c.loop-place-test.false

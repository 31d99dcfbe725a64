use Prim.Native.Nat.{◌-◌, ◌≤◌}
use native.Mathlib.Omega.{arith}
use mathlib.Core.Path.{refl, sym, ◌∙◌, subst}
use lib.ListN.{get_or}
use Rattle.journal.specs.Parts.{Ready}
use Rattle.journal.proofs.Restore.{ready-able, able-ready, undone_to_lem, popped, p-below}
use Rattle.journal.proofs.Whole.{stepped-back, stepped-not}
use Rattle.journal.proofs.undo.Goals as goal

pub returns-then-not-header : goal.returns-then-not-header
returns-then-not-header c = stepped-not _ (λ o. c.header.ensures.1 c.if-not-header.true o.able.header)

pub returns-then-n-eq0 : goal.returns-then-n-eq0
returns-then-n-eq0 c = stepped-not _ (λ o. omega (arith, o.some, c.if-n-eq0.true))

pub ready-requires : goal.ready-requires
ready-requires c =
    (omega (arith, p-below _ _ _ (c.header.ensures.0 c.if-not-header.false) (omega (arith, c.if-n-eq0.false)) c.place_before-p.ensures refl, c.header.ensures.0 c.if-not-header.false, c.from.ensures), c.header.ensures.0 c.if-not-header.false)

pub returns-then-not-ready : goal.returns-then-not-ready
returns-then-not-ready c =
    stepped-not _ (λ o. c.ready.ensures.1 c.if-not-ready.true (subst (Ready c.args.mem.now) (sym (c.from.ensures ∙ c.place_before-p.ensures)) (ready-able c.args.mem.now _ o.able)))

pub replay-requires : goal.replay-requires
replay-requires c =
    popped c.args.mem.now c.place_before-p.result (get_or c.args.mem.now 4 0 - 1) (c.header.ensures.0 c.if-not-header.false) (omega (arith, c.if-n-eq0.false)) c.place_before-p.ensures refl c.set_ring.new.mem c.set_ring.ensures (subst (Ready c.args.mem.now) c.from.ensures (c.ready.ensures.0 c.if-not-ready.false))

pub returns : goal.returns
returns c =
    let m = c.args.mem.now in
    let h = c.header.ensures.0 c.if-not-header.false in
    let z : 1 ≤ get_or m 4 0 = omega (arith, c.if-n-eq0.false) in
    let r = subst (Ready m) c.from.ensures (c.ready.ensures.0 c.if-not-ready.false) in
    stepped-back _ _ (record { some = z; able = able-ready m _ h (subst (Ready m) c.place_before-p.ensures r) }) (undone_to_lem m c.place_before-p.result (get_or m 4 0 - 1) h z c.place_before-p.ensures refl c.set_ring.new.mem c.set_ring.ensures c.replay.new.mem c.replay.ensures)

use Prim.Native.Nat.{ℕ, ◌+◌}
use native.Mathlib.Omega.{arith}
use mathlib.Core.List.{List}
use mathlib.Core.Path.{sym, ap, subst}
use Rattle.journal.specs.Parts.{Saved, saving}
use Rattle.journal.proofs.Save.{saved-none, saved}
use Rattle.journal.proofs.ring.save.Goals as goal

pub returns-then-j-eq0 : goal.returns-then-j-eq0
returns-then-j-eq0 c = saved-none _ _ c.requires.header c.if-j-eq0.true

pub returns : goal.returns
returns c =
    subst (λ (x : List ℕ). Saved c.args.mem.now (saving c.args.mem.now c.args.from c.args.to c.args.offset c.args.len) x) (sym c.set_ring.ensures)
    (saved c.args.mem.now c.copy.new.mem c.note.new.mem _ _ _ _ _ _ _ _ _ c.requires (omega arith) (ap (λ (x : ℕ). x + c.args.offset) c.room_start.ensures) c.image_start-image.ensures (omega (arith, c.from.ensures)) c.next_place.ensures c.one_more.ensures c.copy.ensures c.note.ensures)

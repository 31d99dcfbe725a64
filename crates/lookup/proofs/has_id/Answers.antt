use Prim.Native.Nat.{ℕ}
use mathlib.Core.Path.{sym, ap, ◌∙◌}
use mathlib.Core.List.{List}
use mathlib.Core.Bool.{not}
use Rattle.text.specs.Bytes.{eq_bytes}
use Rattle.lookup.proofs.Ranks.{slot-inside, id_is}
use Rattle.lookup.proofs.has_id.Goals as goal

pub bounds-mem-i : goal.bounds-mem-i
bounds-mem-i c = slot-inside _ _ c.requires

pub returns-then-not-ends_otherwise : goal.returns-then-not-ends_otherwise
returns-then-not-ends_otherwise c = c.same.ensures ∙ ap (λ (t : List ℕ). eq_bytes t c.args.id.now) (c.id_from.ensures ∙ id_is _ _ _ c.requires c.room_at-start.ensures)

pub returns-else-not-ends_otherwise : goal.returns-else-not-ends_otherwise
returns-else-not-ends_otherwise c =
    ap not c.if-not-ends_otherwise.false ∙ sym (c.ends_otherwise.ensures c.if-not-ends_otherwise.false) ∙ ap (λ (t : List ℕ). eq_bytes t c.args.id.now) (id_is _ _ _ c.requires c.room_at-start.ensures)

use Prim.Native.Nat.{ℕ, ◌+◌, ◌*◌}
use native.Mathlib.Omega.{arith}
use mathlib.Core.Logic.{inr}
use mathlib.Core.Path.{◌≡◌, ap}
use lib.ListN.{get_or}
use Rattle.journal.proofs.Restore.{raw, replayed}
use Rattle.journal.proofs.ring.replay.Goals as goal

pub copy-requires : goal.copy-requires
copy-requires c =
    let r = raw c.args.mem.now _ (128 + 32 * c.from.result) _ _ _ _ (omega (arith, c.from.ensures)) c.requires.1 c.requires.2 c.place_at-from.ensures c.place_at-to.ensures c.number_at-offset.ensures c.number_at-len.ensures in
    record { n_in_bounds = (omega (arith, r, c.room_start.ensures, c.image_start-image.ensures), omega (arith, r, c.room_start.ensures, c.image_start-image.ensures)); fact = inr (omega (arith, r, c.room_start.ensures, c.image_start-image.ensures)) }

pub settle-requires : goal.settle-requires
settle-requires c =
    let r = raw c.args.mem.now _ (128 + 32 * c.from.result) _ _ _ _ (omega (arith, c.from.ensures)) c.requires.1 c.requires.2 c.place_at-from.ensures c.place_at-to.ensures c.number_at-offset.ensures c.number_at-len.ensures in
    let d : get_or c.copy.new.mem 1 0 ≡ get_or c.args.mem.now 1 0 = c.copy.ensures.below 1 (omega arith) in
    record { from_bound = (omega (arith, r, d), omega (arith, r, d)); mem_in_bounds = omega (arith, d, c.copy.ensures.kept) }

pub returns : goal.returns
returns c =
    replayed c.args.mem.now c.args.p c.requires.1 c.requires.0 c.requires.2 c.copy.new.mem c.settle.new.mem c.head_at-head.result (128 + 32 * c.from.result) _ _ _ _ _ _ (omega (arith, c.from.ensures)) c.place_at-from.ensures c.place_at-to.ensures c.number_at-offset.ensures c.number_at-len.ensures c.head_at-head.ensures c.image_start-image.ensures (ap (λ (x : ℕ). x + c.number_at-offset.result) c.room_start.ensures) c.copy.ensures c.settle.ensures

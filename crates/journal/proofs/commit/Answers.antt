use Prim.Native.Nat.{◌+◌, ◌-◌}
use native.Mathlib.Omega.{arith}
use lib.ListN.{length-take, length-drop}
use Rattle.journal.proofs.Whole.{committed-not}
use Rattle.journal.proofs.Making as making
use Rattle.journal.proofs.commit.Goals as goal

pub returns-then-not-able : goal.returns-then-not-able
returns-then-not-able c = committed-not _ _ (c.able.ensures.1 c.if-not-able.true)

pub write-requires : goal.write-requires
write-requires c =
    simp (length-take, length-drop) (omega (arith, c.able.ensures.0 c.if-not-able.false, making.room-inside _ _ c.args.from c.args.to c.args.offset _ c.args.bytes.now c.args.head.now (c.able.ensures.0 c.if-not-able.false) c.save.ensures c.room_start-start.ensures))

pub settle-requires : goal.settle-requires
settle-requires c =
    let a = c.able.ensures.0 c.if-not-able.false in
    let n = (c.room_start-start.result + 8192) - c.room_start-start.result in
    let k = making.able₁ _ _ c.args.from c.args.to c.args.offset _ c.args.bytes.now c.args.head.now a c.save.ensures c.room_start-start.ensures in
    let d = making.same-capacity _ _ c.args.from c.args.to c.args.offset _ c.args.bytes.now c.args.head.now a c.save.ensures c.room_start-start.ensures c.write.new.mem n (omega arith) c.write.ensures in
    let l = making.same_length _ _ c.args.from c.args.to c.args.offset _ c.args.bytes.now c.args.head.now a c.save.ensures c.room_start-start.ensures c.write.new.mem n (omega arith) c.write.ensures in
    record { from_bound = (omega (arith, k, d), omega (arith, k, d)); mem_in_bounds = omega (arith, k, d, l) }

pub returns : goal.returns
returns c =
    let n = (c.room_start-start.result + 8192) - c.room_start-start.result in
    making.made _ _ c.args.from c.args.to c.args.offset _ c.args.bytes.now c.args.head.now (c.able.ensures.0 c.if-not-able.false) c.save.ensures c.room_start-start.ensures c.write.new.mem n (omega arith) c.write.ensures c.settle.new.mem c.settle.ensures

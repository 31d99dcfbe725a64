use Prim.Native.Nat.{◌+◌, ◌-◌}
use native.Mathlib.Omega.{arith}
use mathlib.Core.Path.{◌≡◌}
use lib.ListN.{get_or, length, length-take, length-drop, take, drop}
use borrow.Author.Rules.{rules}
use Rattle.journal.proofs.Steps.{settled}
use Rattle.journal.proofs.ring.settle.Goals as goal

pub shift-requires : goal.shift-requires
shift-requires c =
    let l : length (take ((64 + c.from-end.result) - 64) (drop 64 c.write.new.mem)) ≡ c.from-end.result = simp (length-take, length-drop) (omega (arith, c.write.ensures.kept, c.from-end.ensures)) in (omega (arith, l, c.from-end.ensures, c.from-a.ensures), omega (arith, l, c.from-end.ensures, c.from-b.ensures))

pub returns : goal.returns
returns c =
    let lh : length c.args.head.now ≡ 24 = search rules in
    let m = c.args.mem.now in
    settled m c.write.new.mem c.shift.new.order c.args.head.now (get_or m 1 0) c.from-a.result c.from-b.result c.args.from c.args.to ((64 + c.from-end.result) - 64) c.from-a.ensures c.from-b.ensures (omega arith) (omega arith) (omega arith) (omega (arith, c.from-end.ensures)) lh c.write.ensures c.shift.ensures

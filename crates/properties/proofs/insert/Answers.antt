use mathlib.Core.Path.{refl}
use native.Mathlib.Omega.{arith}
use Rattle.properties.proofs.Good.{full}
use Rattle.properties.proofs.Insertion.{both-plain, carry-start, carry-swap, carry-keep, stays-full, is_inserted}
use Rattle.properties.proofs.insert.Goals as goal
use Rattle.properties.proofs.insert.Goals.{then-placed, else-placed}

pub returns-then-n-ge-MOST : goal.returns-then-n-ge-MOST
returns-then-n-ge-MOST c = λ h. stays-full _ _ _ _ (omega arith) refl

pub loop-j-init : goal.loop-j-init
loop-j-init c = carry-start _ _ _ _ (omega arith) (full c.args.l _ c.well_formed.1.1.0)

pub loop-j-preserved : goal.loop-j-preserved
loop-j-preserved c = elim c.if-placed.branch [
  | then-placed w ↦ rw (w.items-is, w.carry-is) (carry-swap _ _ _ _ _ _ _ _ _ c.loop-j.invariant c.loop-j-test.true (λ g. c.takes_place-placed.ensures g _ (both-plain _ _ _ (c.raw_bytes_by-node.ensures g) (c.raw_bytes_by-id.ensures g) (c.is_plain_by.ensures g) (c.is_plain_by-2.ensures g))) w.if-placed.true)
  | else-placed w ↦ rw (w.items-is, w.carry-is) (carry-keep _ _ _ _ _ _ _ _ _ c.loop-j.invariant c.loop-j-test.true (λ g. c.takes_place-placed.ensures g _ (both-plain _ _ _ (c.raw_bytes_by-node.ensures g) (c.raw_bytes_by-id.ensures g) (c.is_plain_by.ensures g) (c.is_plain_by-2.ensures g))) w.if-placed.false)
]

pub returns : goal.returns
returns c = λ h. is_inserted _ _ _ _ c.args.e c.loop-j.invariant h (omega arith) refl refl

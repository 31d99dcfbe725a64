use lib.ListN.{length}
use Prim.Native.Nat.{◌+◌, ◌-◌, ◌*◌}
use Rattle.json_text.specs.Value.{value_at, array_at, object_at, member_of}
use Rattle.json_text.proofs.Ends.{Walk}
use Rattle.json_text.proofs.+array_inner_value_mark_value_member_object.Given as goal

-- the nesting left, then the bytes left; a value within another comes before the array or object that it is
abbrev pub decreases-array : goal.decreases-array
decreases-array l = 2 * (l.depth + (length l.s.now - l.at))

abbrev pub decreases-inner_value : goal.decreases-inner_value
decreases-inner_value l = 2 * (l.depth + (length l.s.now - l.at)) + 1

abbrev pub decreases-mark_value : goal.decreases-mark_value
decreases-mark_value l = 2 * (l.depth + (length l.s.now - l.at))

abbrev pub decreases-member : goal.decreases-member
decreases-member l = 2 * (l.depth + (length l.s.now - l.at))

abbrev pub decreases-object : goal.decreases-object
decreases-object l = 2 * (l.depth + (length l.s.now - l.at))

abbrev pub invariant-array-loop-v : goal.invariant-array-loop-v
invariant-array-loop-v l = Walk (λ j. value_at l.depth l.s j) 93 l.s l.at (array_at l.depth l.s l.at) l.depth l.initial.ends l.ends l.i

abbrev pub decreases-array-loop-v : goal.decreases-array-loop-v
decreases-array-loop-v l = length l.s - l.i

abbrev pub invariant-object-loop-m : goal.invariant-object-loop-m
invariant-object-loop-m l = Walk (λ j. member_of (λ k. value_at l.depth l.s k) l.s j) 125 l.s l.at (object_at l.depth l.s l.at) l.depth l.initial.ends l.ends l.i

abbrev pub decreases-object-loop-m : goal.decreases-object-loop-m
decreases-object-loop-m l = length l.s - l.i

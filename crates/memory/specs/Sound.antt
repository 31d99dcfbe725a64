-- Paper 01, "Refusal numbers": 6, "memory is not a sound table". "The team writes the soundness rule in docs/": this is that rule,
-- what a call checks before anything else, and all that there is to know of the memory.
use Rattle.std.specs.Prelude.{ℕ, ◌+◌, ◌-◌, ◌≤◌, ◌<◌, ◌≡◌, List, length, get_or}
use Rattle.memory.specs.Layout.{room_size, most, mark, mark_at, domain_most, capacity, depth, next, steps, domain_length, count, slot, size, from_of, to_of, offset_of, length_of, count_of}

-- the header: the mark, the sizes, the ring's two numbers, the lengths of the domain and of the memory
pub record Header (m : List ℕ) : Type 0 where
  pub marked : get_or m mark_at 0 ≡ mark
  pub some : 1 ≤ capacity m
  pub few : capacity m ≤ most
  pub deep : depth m ≤ most
  pub ring : next m ≤ depth m - 1
  pub offer : steps m ≤ depth m
  pub named : 1 ≤ domain_length m
  pub short : domain_length m ≤ domain_most
  pub counted : count m ≤ capacity m
  pub long : size m ≤ length m

-- an order of d rooms names each of them once
pub record Permutation (d : ℕ) (order : ℕ → ℕ) : Type 0 where
  pub slots : (i : ℕ) → i < d → order i < d
  pub apart : (i k : ℕ) → i < k → k < d → order i ≡ order k → ⊥

-- a change that d rooms can take: from a place of the order, to a place, n devices then, len bytes from an offset of a room on
pub record ChangeFits (d from to n offset len : ℕ) : Type 0 where
  pub starts : from < d
  pub ends : to < d
  pub counted : n ≤ d
  pub inside : offset + len ≤ room_size

abbrev pub EntryFits : List ℕ → ℕ → Type 0
EntryFits m p = ChangeFits (capacity m) (from_of m p) (to_of m p) (count_of m p) (offset_of m p) (length_of m p)

-- the whole rule: the header and the order; every entry of the ring reads as one that fits, so the rule does not look at them
pub record Sound (m : List ℕ) : Type 0 where
  pub header : Header m
  pub permuted : Permutation (capacity m) (slot m)

-- what a change needs: the header's rule, a fitting change, and a slot that is one
pub record Able (m : List ℕ) (from to n offset len : ℕ) : Type 0 where
  pub header : Header m
  pub fits : ChangeFits (capacity m) from to n offset len
  pub there : slot m from < capacity m

-- What a private function decides or computes, for its contract only.
use Rattle.std.specs.Prelude.{ℕ, zero, suc, ◌+◌, ◌-◌, ◌≤◌, ◌<◌, ◌≡◌, cond, List, eqb, length, get_or}
use Rattle.memory.specs.Layout.{domain_most, capacity, depth, next, steps, domain_length, count}

-- the part of the header's rule that counters and lengths keep
pub record Counters (m : List ℕ) : Type 0 where
  pub ring : next m ≤ depth m - 1
  pub offer : steps m ≤ depth m
  pub named : 1 ≤ domain_length m
  pub short : domain_length m ≤ domain_most
  pub counted : count m ≤ capacity m

-- 1 if one of the first t of an order is s, else 0
unfoldable pub hit : (ℕ → ℕ) → ℕ → ℕ → ℕ
hit order zero s = 0
hit order (suc t) s = cond (eqb (order t) s) 1 (hit order t s)

pub record Hits (order : ℕ → ℕ) (t : ℕ) (seen : List ℕ) : Type 0 where
  pub size : length seen ≡ 256
  pub each : (s : ℕ) → s < 256 → get_or seen s 0 ≡ hit order t s

-- f 0 + f 1 + .. + f (n - 1)
unfoldable pub total : (ℕ → ℕ) → ℕ → ℕ
total f zero = 0
total f (suc n) = total f n + f n

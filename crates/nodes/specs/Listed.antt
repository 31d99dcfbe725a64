-- What judging nodes, and putting their properties into a list, tells.
use Rattle.std.specs.Prelude.{ℕ, ◌≤◌, ◌≡◌, List, None}
use Rattle.faults.specs.declared.Fault.{Fault}
use Rattle.faults.specs.Faults.{least}
use Rattle.properties.specs.Property.{Property}
use Rattle.properties.specs.Entries.{properties_most, view}
use Rattle.nodes.specs.declared.Listed.{Listed}

-- what is told of their faults; and if there is none, the list
pub record Lists (faults : List Fault) (want : List Property) (s : List ℕ) (r : Listed) : Type 0 where
  pub told : r.told ≡ least faults
  pub few : r.list.n ≤ properties_most
  pub list : r.told ≡ None → view s r.list ≡ want

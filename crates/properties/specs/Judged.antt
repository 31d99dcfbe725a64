-- What judging a property's object tells.
use Rattle.std.specs.Prelude.{ℕ, ◌≡◌, List, None}
use Rattle.faults.specs.declared.Fault.{Fault}
use Rattle.faults.specs.Faults.{least}
use Rattle.properties.specs.declared.Judged.{Judged}
use Rattle.properties.specs.Property.{Property}
use Rattle.properties.specs.Entries.{content}

-- what is told of its faults; and if there is none, what the property declares
pub record Judges (faults : List Fault) (want : Property) (s : List ℕ) (j : Judged) : Type 0 where
  pub told : j.told ≡ least faults
  pub declares : j.told ≡ None → content s j.entry ≡ want

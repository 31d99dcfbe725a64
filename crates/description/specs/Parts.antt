-- What the contracts of private functions cite: the faults of a device and what it declares, by what was seen of its known fields.
use Rattle.std.specs.Prelude.{ℕ, ◌^◌, ◌≡◌, List, ◌++◌, Some, Option, None}
use Rattle.answer.specs.Answer.{gives}
use Rattle.numbers.specs.Whole.{stands}
use Rattle.faults.specs.declared.Fault.{Fault}
use Rattle.faults.specs.Faults.{least}
use Rattle.fields.specs.Fields.{field_faults}
use Rattle.fields.specs.Known.{field_at}
use Rattle.fields.specs.declared.Kind.TheVariants.{Text, Object, Ids, Texts}
use Rattle.description.specs.declared.Description.{Description}
use Rattle.description.specs.declared.VersionRead.{VersionRead}
use Rattle.description.specs.Meaning.{listed}
use Rattle.description.specs.Description.{version_in, version_faults, root_faults, parent_faults, described_in}

-- the version that a field holds, of the device at `at`
pub record ReadsVersion (s : List ℕ) (at : ℕ) (f : Option ℕ) (r : VersionRead) : Type 0 where
  pub told : r.told ≡ least (version_faults s at f)
  pub value : r.told ≡ None → version_in s f ≡ Some (stands (2 ^ 63) r.value)

unfoldable pub other_faults_in : List ℕ → List ℕ → List Fault
other_faults_in s seen =
    field_faults Object s (field_at seen 5) ++
    (field_faults Text s (field_at seen 0) ++
    (field_faults Text s (field_at seen 1) ++
    (field_faults Ids s (field_at seen 12) ++
    field_faults Texts s (field_at seen 14))))

unfoldable pub relatives_in : List ℕ → List ℕ → List ℕ → List Fault
relatives_in own s seen = root_faults own s (field_at seen 3) ++ parent_faults own s (field_at seen 3) (field_at seen 6)

-- what is told of these faults; and if there is none, what the device at `at` declares
pub record Tells (faults : List Fault) (s : List ℕ) (at : ℕ) (r : Description) : Type 0 where
  pub told : r.told ≡ least faults
  pub declares : r.told ≡ None → listed s r ≡ gives (described_in s at)

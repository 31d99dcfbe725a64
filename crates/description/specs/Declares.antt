-- What holds of all that a valid description declares (paper 01, "The description").
use Rattle.std.specs.Prelude.{ℕ, ◌≤◌, ◌≡◌, List, true, length, None, Some}
use Rattle.text.specs.Ids.{is_id}
use Rattle.properties.specs.Property.{Property}
use Rattle.properties.specs.Valid.{Valid, In, ascends}
use Rattle.description.specs.Description.{Described}

-- "`root`, `parent` (IDs)"; "neither is the device's own ID"
pub record Other (own id : List ℕ) : Type 0 where
  pub is : is_id id ≡ true
  pub other : id ≡ own → ⊥

pub record Declares (own : List ℕ) (x : Described) : Type 0 where
  pub root : (id : List ℕ) → x.root ≡ Some id → Other own id
  pub parent : (id : List ℕ) → x.parent ≡ Some id → Other own id
  -- "`parent` needs `root`"
  pub needs : x.root ≡ None → x.parent ≡ None
  -- each property is named by two IDs and has a valid format of at most 64 bytes
  pub valid : (p : Property) → In p x.properties → Valid p
  -- "At most 24 properties in all."
  pub few : length x.properties ≤ 24
  -- "by node ID, then property ID": each stands before the next one, so no two have the same two IDs
  pub ascending : ascends x.properties ≡ true

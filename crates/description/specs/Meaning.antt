-- The paper's number and values of each answer: strings by content.
use Rattle.std.specs.Prelude.{ℕ, ◌^◌, ◌≤◌, ◌≡◌, List, leb, None}
use Rattle.answer.specs.Answer.{Answer, gives, require}
use Rattle.numbers.specs.Whole.{stands}
use Rattle.fields.specs.Fields.{text_in}
use Rattle.properties.specs.Property.{Property}
use Rattle.properties.specs.Entries.{properties_most, view}
use Rattle.description.specs.declared.Description.{Description}
use Rattle.description.specs.Description.{Described, answered}

-- what a description with these properties shows of the text s that it was read from
unfoldable pub shown : List ℕ → Description → List Property → Described
shown s d ps = record {
  root = text_in s d.root;
  parent = text_in s d.parent;
  version = stands (2 ^ 63) d.version;
  properties = ps;
}

-- a taken description has at most 24 properties; 0, which is no refusal, would stand for one that has more
unfoldable pub listed : List ℕ → Description → Answer Described
listed s d = require (leb d.properties.n properties_most) 0 (gives (shown s d (view s d.properties)))

unfoldable pub meaning : List ℕ → Description → Answer Described
meaning s d = answered d.told (listed s d)

-- the same, field by field: a description that is taken and declares x
pub record Shows (s : List ℕ) (d : Description) (x : Described) : Type 0 where
  pub taken : d.told ≡ None
  pub root : text_in s d.root ≡ x.root
  pub parent : text_in s d.parent ≡ x.parent
  pub version : stands (2 ^ 63) d.version ≡ x.version
  pub few : d.properties.n ≤ properties_most
  pub properties : view s d.properties ≡ x.properties

-- What every property of a valid description has, and what a list of them has.
use Rattle.std.specs.Prelude.{◌≤◌, ◌≡◌, ◌↔◌, List, [], ◌∷◌, Bool, true, ◌&&◌, length}
use Rattle.text.specs.Ids.{is_id}
use Rattle.payload.specs.Formats.{is_format}
use Rattle.properties.specs.Property.{Property, is_before}

pub record Valid (p : Property) : Type 0 where
  -- "object by ID"
  pub node : is_id p.node ≡ true
  pub id : is_id p.id ≡ true
  -- the kept format is one of the datatype: "Formats, at most 64 bytes where kept"
  pub format : is_format p.datatype p.format ≡ true
  pub short : length p.format ≤ 64

-- a property stands in a list
pub data In (p : Property) : List Property → Type 0 where
  here : {q : Property} {qs : List Property} → p ≡ q → In p (q ∷ qs)
  later : {q : Property} {qs : List Property} → In p qs → In p (q ∷ qs)

-- "by node ID, then property ID": each stands before the next one
unfoldable pub ascends_from : Property → List Property → Bool
ascends_from p [] = true
ascends_from p (q ∷ qs) = is_before p q && ascends_from q qs

unfoldable pub ascends : List Property → Bool
ascends [] = true
ascends (p ∷ ps) = ascends_from p ps

-- a list has the properties of another, in that order
pub record Arranged (ps qs : List Property) : Type 0 where
  pub same : (p : Property) → In p ps ↔ In p qs
  pub long : length qs ≡ length ps
  pub ascending : ascends qs ≡ true

-- two properties that do not have the same two IDs, and a list of such
abbrev pub Differ : Property → Property → Type 0
Differ p q = p.node ≡ q.node → p.id ≡ q.id → ⊥

pub data Apart : List Property → Type 0 where
  none : Apart []
  more : {p : Property} {ps : List Property} → ((q : Property) → In q ps → Differ p q) → Apart ps → Apart (p ∷ ps)

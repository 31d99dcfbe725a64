-- The names of the known fields of a description's objects (paper 01, "The description").
use Rattle.std.specs.Prelude.{ℕ, List, [], ◌∷◌, Bool, true, false}
use Rattle.text.specs.Ascii.{ascii}
use Rattle.text.specs.Bytes.{eq_bytes}
use Rattle.fields.specs.declared.Owner.{Owner}
use Rattle.fields.specs.declared.Owner.TheVariants.{Device, Node, Property}

-- "Fields: `homie` .., `version` .., `nodes` .., `name`, `type` .., `children` .., `root`, `parent` .., `extensions` .. A node: `name`, `type` ..,
-- `properties` .. A property: `datatype` .., `name`, `unit`, `format` .., `settable` .., `retained` .."
unfoldable pub known_names : Owner → List (List ℕ)
known_names Device =
    ascii "homie" ∷ ascii "version" ∷ ascii "nodes" ∷ ascii "name" ∷ ascii "type" ∷ ascii "children" ∷ ascii "root" ∷ ascii "parent" ∷
    ascii "extensions" ∷ []
known_names Node = ascii "name" ∷ ascii "type" ∷ ascii "properties" ∷ []
known_names Property = ascii "datatype" ∷ ascii "name" ∷ ascii "unit" ∷ ascii "format" ∷ ascii "settable" ∷ ascii "retained" ∷ []

unfoldable pub is_one_of : List ℕ → List (List ℕ) → Bool
is_one_of t [] = false
is_one_of t (name ∷ names) = elim (eq_bytes t name) [ true ↦ true | false ↦ is_one_of t names ]

-- a name is that of a known field of such an object
unfoldable pub is_known : Owner → List ℕ → Bool
is_known owner t = is_one_of t (known_names owner)
